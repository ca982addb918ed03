-- The own entry of a directory: after the check and the walk it is there, so that no call is refused for want of it. Definitions
-- alone.
use Rattle.std.specs.Prelude.{◌≡◌, List, ℕ}
use Rattle.model.specs.Answers.{accepted}
use Rattle.model.specs.Geometry.{Mount, geo_at, block_size, area_of}
use Rattle.model.specs.Volume.{WellFormed, max_depth}
use Rattle.model.specs.Steps.{Bytes}
use Rattle.limits.specs.declared.Refusal.{Refusal}
use Rattle.limits.specs.Refusals.{refusal_number}
use Rattle.own_entry.specs.Own.{OwnIn, OwnOf}
use Rattle.path.specs.Path.{real_path, dir_part}
use Rattle.dir.specs.Hold.{Hold, hold_dir}
use Rattle.call_volume.specs.Checking.{check_refusal}
use Rattle.thm_calls.specs.Named.{way_of}

-- The image I passes the check, mounted as M says and with a work buffer of len bytes, and the directory part of a path leads to
-- the directory h. Then the own entry that the way kept lies in the image, and on the tree of I it is that of the directory at
-- these names: none for the root, and else the entry of the last name in the directory above.
pub record OwnEntryThere : Type 0 where
  pub inside : (M : Mount) (I : List ℕ) (len : ℕ) → Bytes I → check_refusal M I len ≡ 0 → (cwd p : List ℕ) (h : Hold)
      → hold_dir (area_of (geo_at M I)) I (dir_part (real_path cwd p)) ≡ accepted h → OwnIn (block_size (geo_at M I)) I h.own
  pub there : (M : Mount) (I : List ℕ) (w : WellFormed M I) (cwd p : List ℕ) (h : Hold)
      → hold_dir (area_of (geo_at M I)) I (dir_part (real_path cwd p)) ≡ accepted h
      → OwnOf (block_size (geo_at M I)) max_depth (way_of cwd p) w.tree h.own
  -- So no refusal has the number 18.
  pub numbers : (r : Refusal) → refusal_number r ≡ 18 → ⊥
