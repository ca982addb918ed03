-- Deleting by a full path, on an opened volume: the refusals in the order O10, and the image. Definitions alone.
-- O10: 5/6, 14 (4 comes before, with the path)
use Rattle.std.specs.Prelude.{Bool, not, ◌&&◌, List, ℕ, eqb}
use Rattle.model.specs.Answers.{Reply, accepted, refused, and_then, when, given}
use Rattle.model.specs.Geometry.{area_of, Geo}
use Rattle.dir_entry.specs.declared.DirEntry.{DirEntry}
use Rattle.dir_entry.specs.Entry.{is_dir}
use Rattle.read_dir.specs.declared.Place.{Place}
use Rattle.read_dir.specs.declared.Placed.{Placed}
use Rattle.read_dir.specs.Walk.{walk}
use Rattle.read_dir.specs.Finds.{find_in}
use Rattle.own_entry.specs.Own.{Own}
use Rattle.delete_store.specs.Delete.{removed}
use Rattle.path.specs.Path.{last_name, dir_part}
use Rattle.dir.specs.Resolve.{on_placed, on_name}
use Rattle.dir.specs.Hold.{Hold, hold_dir}

-- The entry to delete: its directory's first address, its fixed part, its place there, and that directory's own entry.
pub record Doomed : Type 0 where
  pub dir : ℕ
  pub entry : DirEntry
  pub place : Place
  pub own : Own

-- R14: by W4 a directory's size says whether it has entries
unfoldable pub has_entries : DirEntry → Bool
has_entries e = is_dir e.kind && not (eqb e.size 0)

-- The entry x of the directory h: 14, or the entry.
unfoldable pub doomed_at : Hold → Placed → Reply Doomed
doomed_at h x =
    given (when 14 (has_entries x.entry)) (accepted (record { dir = h.dir; entry = x.entry; place = x.place; own = h.own }))

module _ (g : Geo) (I : List ℕ) where
  -- In the directory h, by the name x: 5, then these.
  unfoldable pub doomed_in : List ℕ → Hold → Reply Doomed
  doomed_in x h = on_placed (find_in x (walk (area_of g) I h.dir)) (doomed_at h)

  -- R5, R6: at the full path l: 5 for an empty last name, before any walk; 5 or 6 on the way; then these.
  unfoldable pub doomed_of : List ℕ → Reply Doomed
  doomed_of l = on_name (last_name l) (and_then (hold_dir (area_of g) I (dir_part l)) (doomed_in (last_name l)))

  -- plain success, or the refusal
  unfoldable pub deleted_on : List ℕ → Reply (Unit {0})
  deleted_on l = and_then (doomed_of l) (λ d. accepted tt)

  -- C11: the image afterwards: the entry is gone, or all is as it was.
  abbrev pub image_at : ℕ → Reply Doomed → List ℕ
  image_at time (accepted d) = removed g I d.dir d.entry d.place d.own time
  image_at time (refused r) = I

  unfoldable pub deleted_image : List ℕ → ℕ → List ℕ
  deleted_image l time = image_at time (doomed_of l)
