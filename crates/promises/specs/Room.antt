-- C18: what the question after room is told. Definitions alone.
use Rattle.std.specs.Prelude.{◌≡◌, ◌↔◌, true, false, List, ℕ, ◌*◌, ◌≤◌, ◌<◌, length, Result}
use Rattle.model.specs.Answers.{accepted, refused}
use Rattle.model.specs.Geometry.{Mount, block_size, map_at, reach, geo_at, open_refusal}
use Rattle.model.specs.Volume.{WellFormed, max_depth}
use Rattle.model.specs.Calls.{free_blocks}
use Rattle.bitmap_block.specs.Bitmap.{clears}
use Rattle.bitmap_room.specs.declared.Told.{Told}
use Rattle.bitmap_room.specs.Search.{clear_in, bytes_for}
use Rattle.call_room.specs.Room.{Asks}
use Rattle.limits.specs.Says.{says}
use Rattle.limits.specs.declared.Refusal.{Refusal}

-- how many of the clear indexes in reach have their bits in the first m bytes of the bitmap
abbrev pub clear_in_first : Mount → List ℕ → ℕ → ℕ
clear_in_first M I m = clear_in I (block_size (geo_at M I) * map_at (geo_at M I)) (reach (geo_at M I)) m

-- On every image on which room answers t, for k blocks:
pub record RoomIsTold : Type 0 where
  -- yes exactly if the clear indexes in reach are k at least;
  pub enough : (M : Mount) (I : List ℕ) (k : ℕ) (r : Result Told Refusal) (t : Told) → Asks M I k r → says r ≡ accepted t
      → (t.enough ≡ true) ↔ (k ≤ length (clears (geo_at M I) I))
  -- then the bytes are the fewest leading ones that have k of them,
  pub fewest : (M : Mount) (I : List ℕ) (k : ℕ) (r : Result Told Refusal) (t : Told) → Asks M I k r → says r ≡ accepted t
      → t.enough ≡ true → (k ≤ clear_in_first M I t.bytes) × ((m : ℕ) → m < t.bytes → clear_in_first M I m < k)
  -- and otherwise all that have a bit in reach.
  pub all : (M : Mount) (I : List ℕ) (k : ℕ) (r : Result Told Refusal) (t : Told) → Asks M I k r → says r ≡ accepted t
      → t.enough ≡ false → t.bytes ≡ bytes_for (reach (geo_at M I))
  -- On a well-formed volume yes is: k blocks at least are free, in reach and not reached by the tree.
  pub free : (M : Mount) (I : List ℕ) (k : ℕ) (r : Result Told Refusal) (t : Told) → Asks M I k r → says r ≡ accepted t
      → (w : WellFormed M I)
      → (t.enough ≡ true) ↔ (k ≤ length (free_blocks (geo_at M I) max_depth w.tree))
  -- A refusal is the first of 1, 2, 3 that holds, and nothing else is refused.
  pub refusal : (M : Mount) (I : List ℕ) (k : ℕ) (r : Result Told Refusal) (j : ℕ) → Asks M I k r → says r ≡ refused j
      → (1 ≤ j) × (open_refusal M I ≡ j)
  pub known : (M : Mount) (I : List ℕ) (k : ℕ) (r : Result Told Refusal) → Asks M I k r → open_refusal M I ≡ 0
      → (t : Told) × (says r ≡ accepted t)
