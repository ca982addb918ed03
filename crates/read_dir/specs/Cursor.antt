-- 2. The cursor: what remains to be walked from one, and what one move and one step of it give. Definitions alone.
use Rattle.std.specs.Prelude.{◌≡◌, ◌⊎◌, List, ℕ, zero, suc, ◌+◌, ◌-◌, ◌≤◌, ◌<◌, eqb, Option, Some, None, Result, Ok, Err}
use Rattle.wire.specs.Pick.{pick}
use Rattle.block.specs.declared.Addr.{Addr}
use Rattle.block.specs.Block.{Area, next}
use Rattle.dir_entry.specs.declared.DirEntry.{DirEntry}
use Rattle.dir_entry.specs.Entry.{header, place_at, name_at, slot_at}
use Rattle.read_dir.specs.Walk.{Walk, item, finished, damaged, in_area, entries_from, chain_from}
use Rattle.read_dir.specs.declared.ReadDir.{ReadDir}
use Rattle.read_dir.specs.declared.Place.{Place}
use Rattle.read_dir.specs.declared.Move.{Move}
use Rattle.read_dir.specs.declared.Move.TheVariants as move
use Rattle.read_dir.specs.declared.Placed.{Placed}
use Rattle.limits.specs.declared.Damage.{Damage}

-- ---- one move

-- The cursor at a directory's first entry; the cursor past an entry, and at another offset; the place of the entry
-- that it stands at.
abbrev pub start : Area → Addr → ReadDir
start A a = record { block = a; offset = 0; left = A.end - A.first }

abbrev pub past : ReadDir → DirEntry → ReadDir
past c e = record { block = c.block; offset = c.offset + header + e.len; left = c.left }

abbrev pub at_offset : ReadDir → ℕ → ReadDir
at_offset c o = record { block = c.block; offset = o; left = c.left }

abbrev pub here : ReadDir → Place
here c = record { block = c.block; offset = c.offset }

-- An entry was read: one with address 0 is passed over.
unfoldable pub over_move : ReadDir → DirEntry → Move
over_move c e = pick (eqb e.addr.0 0) (move.Go (past c e)) (move.Entry (record { entry = e; place = here c }) (past c e))

-- The block's entries have stopped: to the next block, unless there is none.
unfoldable pub hop_move : ℕ → List ℕ → ReadDir → Move
hop_move B I c =
    pick (eqb (next B I c.block.0) 0) move.End
    (move.Go (record { block = record { 0 = next B I c.block.0 }; offset = 0; left = c.left - 1 }))

abbrev pub on_decoded : ℕ → List ℕ → ReadDir → Option DirEntry → Move
on_decoded B I c (Some e) = over_move c e
on_decoded B I c None = hop_move B I c

module _ (A : Area) (I : List ℕ) where
  -- Where no block may be read any more, or this one is not in D..n-1, it is damage.
  unfoldable pub move_at : ReadDir → Move
  move_at c =
      pick (eqb c.left 0) move.Damaged
      (pick (in_area A I c.block.0) (on_decoded A.size I c (slot_at A.size I c.block.0 c.offset)) move.Damaged)

  -- ---- what remains

  -- What remains to be walked from offset o of block a on, where k blocks may be read, this one counted.
  unfoldable pub rest_from : ℕ → ℕ → ℕ → Walk
  rest_from zero a o = damaged
  rest_from (suc k) a o =
      pick (in_area A I a) (entries_from A I A.size a o
      (pick (eqb (next A.size I a) 0) finished (chain_from A I k (next A.size I a)))) damaged

  abbrev pub cursor_walk : ReadDir → Walk
  cursor_walk c = rest_from c.left c.block.0 c.offset

  -- ---- one step

  -- The item that a step gives, and what remains from the cursor d past it.
  abbrev pub on_step : ReadDir → Result (Option Placed) Damage → Walk
  on_step d (Ok (Some x)) = item x.entry x.place.block.0 x.place.offset
      (name_at I (place_at A.size x.place.block.0 x.place.offset) x.entry.len) (cursor_walk d)
  on_step d (Ok None) = finished
  on_step d (Err e) = damaged

  -- An entry that was read stands in a block of D..n-1, and it ends there.
  pub record Lies (e : DirEntry) (p : Place) : Type 0 where
    pub from : A.first ≤ p.block.0
    pub below : p.block.0 < A.end
    pub ends : p.offset + header + e.len ≤ A.size - 5

  -- After the last step nothing remains, and after damage no more than that.
  abbrev pub StepIn : ReadDir → Result (Option Placed) Damage → Type 0
  StepIn d (Ok (Some x)) = Lies x.entry x.place
  StepIn d (Ok None) = cursor_walk d ≡ finished
  StepIn d (Err e) = cursor_walk d ≡ damaged

  -- A step from the cursor c to the cursor d.
  pub record Stepped (c d : ReadDir) (r : Result (Option Placed) Damage) : Type 0 where
    pub walked : cursor_walk c ≡ on_step d r
    pub inside : StepIn d r

-- How many entries a walk has.
unfoldable pub items : Walk → ℕ
items (item e a o x w) = suc (items w)
items finished = 0
items damaged = 0

-- ---- past entries that do not matter

-- The length of a slot's name, 0 where there is no entry.
abbrev pub len_of : Option DirEntry → ℕ
len_of (Some e) = e.len
len_of None = 0

-- Cursor d is further on than c, past entries that f passes over: it says the same of what remains, and no more entries remain.
pub record Passed (A : Area) (I : List ℕ) {X : Type 0} (f : Walk → X) (c d : ReadDir) : Type 0 where
  pub says : f (cursor_walk A I d) ≡ f (cursor_walk A I c)
  pub fewer : items (cursor_walk A I d) ≤ items (cursor_walk A I c)

-- From offset o of block a to offset q, over k entries. P holds of each, by its offset and the length of its name.
abbrev pub Strides : Area → List ℕ → (ℕ → ℕ → Type 0) → ℕ → ℕ → ℕ → ℕ → Type 0
Strides A I P zero a o q = q ≡ o
Strides A I P (suc k) a o q =
    (n : ℕ) × (n ≡ len_of (slot_at A.size I a o)) × (n ≡ 0 → ⊥) × P o n × Strides A I P k a (o + header + n) q

-- Cursor d is in c's block behind entries of which P holds, none where that block lies outside the area; it stands where the
-- block's entries stop or at the first entry of which Q holds.
pub record Over (A : Area) (I : List ℕ) (P Q : ℕ → ℕ → Type 0) (c d : ReadDir) : Type 0 where
  pub offset : ℕ
  pub count : ℕ
  pub moved : d ≡ at_offset c offset
  pub strides : Strides A I P count c.block.0 c.offset offset
  pub inside : 0 < count → (A.first ≤ c.block.0) × (c.block.0 < A.end)
  pub stops : A.first ≤ c.block.0 → c.block.0 < A.end
      → (len_of (slot_at A.size I c.block.0 offset) ≡ 0) ⊎ Q offset (len_of (slot_at A.size I c.block.0 offset))
