-- Format (C1) and usage (C2).
use Rattle.std.specs.Prelude.{◌≡◌, List, [], ◌∷◌, ℕ, ◌-◌, ◌*◌, ltb, length, Result}
use Rattle.block.specs.Block.{zeroed}
use Rattle.model.specs.Answers.{when, first_of, reply, settle}
use Rattle.model.specs.Geometry.{Mount, Geo, block_size, map_at, data_at, geo_at, format_geo, used_count, open_refusal, format_refusal}
use Rattle.super_block.specs.Super.{super_written}
use Rattle.bitmap_block.specs.Bitmap.{taken}
use Rattle.limits.specs.declared.Refusal.{Refusal}
use Rattle.limits.specs.Says.{says}
use Rattle.call_volume.specs.declared.Space.{Space}

-- C1: the superblock with used count D, a bitmap of zeros, then index 0 taken, block D: that zeroes it, sets its bit and makes
-- the used count D+1.
unfoldable pub formatted : Geo → List ℕ → List ℕ
formatted g I = taken g (zeroed (block_size g) (super_written g I (data_at g)) (map_at g) (data_at g - map_at g)) 0

-- Format of image I, to be mounted as M says: the answer r and the image J.
pub record Formats (M : Mount) (I : List ℕ) (r : Result (Unit {0}) Refusal) (J : List ℕ) : Type 0 where
  pub answer : says r ≡ reply (format_refusal M (length I)) tt
  pub image : J ≡ settle (format_refusal M (length I)) (formatted (format_geo M (length I)) I) I

-- R17: usage of a volume with used count u, where more is used than there is.
unfoldable pub overused : Geo → ℕ → ℕ
overused g u = when 17 (ltb g.n u)

-- O3: 1, 2, 3, then that.
unfoldable pub usage_refusal : Mount → List ℕ → ℕ
usage_refusal M I = first_of (open_refusal M I ∷ (overused (geo_at M I) (used_count (geo_at M I) I) ∷ []))

-- C2: all, used and free, in bytes.
unfoldable pub sizes_of : Geo → ℕ → Space
sizes_of g u = record { size = g.n * block_size g; used = u * block_size g; free = g.n * block_size g - u * block_size g }

-- Usage of image I: the answer r.
abbrev pub Uses : Mount → List ℕ → Result Space Refusal → Type 0
Uses M I r = says r ≡ reply (usage_refusal M I) (sizes_of (geo_at M I) (used_count (geo_at M I) I))
