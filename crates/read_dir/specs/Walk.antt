-- 1. Reading a directory of any image: its entries in chain order, then its end or damage. Definitions alone.
-- A is the data area: the size of its blocks, its first address and the volume's end.
use Rattle.std.specs.Prelude.{Bool, ◌&&◌, List, ℕ, zero, suc, ◌+◌, ◌-◌, ltb, leb, eqb, Option, Some, None}
use Rattle.wire.specs.Pick.{pick}
use Rattle.block.specs.Block.{Area, next}
use Rattle.dir_entry.specs.declared.DirEntry.{DirEntry}
use Rattle.dir_entry.specs.Entry.{header, place_at, name_at, slot_at}

-- An entry with its block, its offset in the block's data and its name, and what follows; the end; damage.
pub data Walk : Type 0 where
  item : DirEntry → ℕ → ℕ → List ℕ → Walk → Walk
  finished : Walk
  damaged : Walk

-- what follows an entry, where there is one
unfoldable pub on_slot : Option DirEntry → (DirEntry → Walk) → Walk → Walk
on_slot (Some e) k w = k e
on_slot None k w = w

module _ (A : Area) (I : List ℕ) where
  -- F3: the data area
  abbrev pub in_area : ℕ → Bool
  in_area a = leb A.first a && ltb a A.end

  -- F11: the entry e at offset o of block a, unless its address is 0, and then w.
  unfoldable pub shown : DirEntry → ℕ → ℕ → Walk → Walk
  shown e a o w = pick (eqb e.addr.0 0) w (item e a o (name_at I (place_at A.size a o) e.len) w)

  -- The entries of block a from offset o on, and then w. (The first number bounds them: each has a byte at least.)
  unfoldable pub entries_from : ℕ → ℕ → ℕ → Walk → Walk
  entries_from zero a o w = w
  entries_from (suc f) a o w = on_slot (slot_at A.size I a o) (λ e. shown e a o (entries_from f a (o + header + e.len) w)) w

  -- F11, R17: on in the next block until that is 0; a block outside the area is damage, and so is one more than k: the walk of
  -- the chain from block a on, of which k blocks may be read.
  unfoldable pub chain_from : ℕ → ℕ → Walk
  chain_from zero a = damaged
  chain_from (suc k) a = pick (in_area a) (entries_from A.size a 0
      (pick (eqb (next A.size I a) 0) finished (chain_from k (next A.size I a)))) damaged

  -- The walk of the directory whose first block is a.
  abbrev pub walk : ℕ → Walk
  walk a = chain_from (A.end - A.first) a
