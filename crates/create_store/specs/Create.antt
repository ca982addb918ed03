-- Creating a file or a directory: where its entry goes, and what the stores make of the image, in their order. Definitions alone.
use Rattle.std.specs.Prelude.{List, [], ◌∷◌, ◌++◌, ℕ, zero, suc, ◌+◌, ◌-◌, ◌≤◌, ◌<◌, leb, eqb, length, Option, Some, None, Result, Ok, Err}
use Rattle.wire.specs.Be.{splice}
use Rattle.wire.specs.Pick.{pick}
use Rattle.block.specs.Block.{Area, next, linked}
use Rattle.model.specs.Tree.{Name, Block, used}
use Rattle.limits.specs.declared.Damage.{Damage}
use Rattle.limits.specs.Says.{damage}
use Rattle.model.specs.Geometry.{Geo, block_size, data_at}
use Rattle.model.specs.Calls.{has_room}
use Rattle.bitmap_block.specs.Bitmap.{taken, fresh}
use Rattle.dir_entry.specs.declared.Kind.{Kind}
use Rattle.dir_entry.specs.declared.DirEntry.{DirEntry}
use Rattle.dir_entry.specs.Entry.{header, head_bytes, place_at, slot_at}
use Rattle.read_dir.specs.declared.Place.{Place}
use Rattle.read_dir.specs.Walk.{in_area}
use Rattle.read_dir.specs.Finds.{placed}
use Rattle.own_entry.specs.Own.{Own, sum_renewed}
use Rattle.create_store.specs.declared.Spot.{Spot}
use Rattle.create_store.specs.declared.Spot.TheVariants.{In, After}

-- ---- where the entry goes

-- k of the entry that stands at offset o, or o where the block's entries stop
abbrev pub stop_or : Option DirEntry → (DirEntry → ℕ) → ℕ → ℕ
stop_or (Some e) k o = k e
stop_or None k o = o

-- The offset where the entries of block a stop, from offset o on. (The first number bounds them.)
unfoldable pub stop_from : ℕ → List ℕ → ℕ → ℕ → ℕ → ℕ
stop_from B I zero a o = o
stop_from B I (suc f) a o = stop_or (slot_at B I a o) (λ e. stop_from B I f a (o + header + e.len)) o

-- The bytes that the entries of block a use.
abbrev pub used_at : ℕ → List ℕ → ℕ → ℕ
used_at B I a = stop_from B I B a 0

-- C9, R17: the first block where a byte stays free behind the entry, else behind the last; a walk out of the area, or over more
-- than n-D blocks, is damage. For a name of len bytes, from block a on, where k blocks may be read.
unfoldable pub spot_from : Area → List ℕ → ℕ → ℕ → ℕ → Result Spot Damage
spot_from A I len zero a = Err damage
spot_from A I len (suc k) a =
    pick (in_area A I a)
    (pick (leb (used_at A.size I a + header + len) (A.size - 5)) (Ok (In (placed a (used_at A.size I a))))
    (pick (eqb (next A.size I a) 0) (Ok (After (record { 0 = a }))) (spot_from A I len k (next A.size I a))))
    (Err damage)

-- The same for the directory whose first block is dir.
abbrev pub spot_for : Area → List ℕ → ℕ → ℕ → Result Spot Damage
spot_for A I dir len = spot_from A I len (A.end - A.first) dir

-- The same on a directory of the tree, z being the block before: its first block with room, at the end of its entries,
-- else after its last one.
unfoldable pub spot_on : {X : Type 0} → ℕ → Name → ℕ → List (Block X) → Spot
spot_on cap n z [] = After (record { 0 = z })
spot_on cap n z (b ∷ bs) = pick (has_room cap n b) (In (placed b.at (used b.entries))) (spot_on cap n b.at bs)

-- How many blocks an entry there takes: its own, and a new directory block before it.
abbrev pub needed : Spot → ℕ
needed (In p) = 1
needed (After a) = 2

-- A place in the data area with room for a name of len bytes, or a last block in the data area.
abbrev pub SpotIn : Area → ℕ → Spot → Type 0
SpotIn A len (In p) = (A.first ≤ p.block.0) × (p.block.0 < A.end) × (p.offset + header + len ≤ A.size - 5)
SpotIn A len (After a) = (A.first ≤ a.0) × (a.0 < A.end)

-- ---- the stores

-- C9: the fixed part of the new entry.
abbrev pub new_head : Kind → ℕ → ℕ → ℕ → DirEntry
new_head k a time len = record { kind = k; addr = record { 0 = a }; size = 0; time = time; len = len }

module _ (g : Geo) where
  -- F6: the image with the next free block taken.
  unfoldable pub block_taken : List ℕ → List ℕ
  block_taken I = taken g I (fresh g I - data_at g)

  -- C9: the image where the entry has a place, and that place.
  abbrev pub opened : List ℕ → Spot → List ℕ
  opened I (In p) = I
  opened I (After a) = linked (block_size g) (block_taken I) a.0 (fresh g I)

  abbrev pub place_in : List ℕ → Spot → Place
  place_in I (In p) = p
  place_in I (After a) = placed (fresh g I) 0

  -- C9: the image with the entry's block taken, and the entry at its place.
  unfoldable pub entered : List ℕ → Place → Kind → Name → ℕ → List ℕ
  entered I p k name time =
      splice (block_taken I) (place_at (block_size g) p.block.0 p.offset)
      (head_bytes (new_head k (fresh g I) time (length name)) ++ name)

  -- C9, C13: the image after a create in the directory whose first block is dir, its own entry renewed; and the entry's block.
  unfoldable pub inserted : List ℕ → ℕ → Spot → Own → Kind → Name → ℕ → List ℕ
  inserted I dir spot own k name time = sum_renewed g (entered (opened I spot) (place_in I spot) k name time) dir own time

  unfoldable pub inserted_at : List ℕ → Spot → ℕ
  inserted_at I spot = fresh g (opened I spot)
