-- The entries of the tree as a block shows them: each is read where it stands, and after the last one reading stops.
use Rattle.std.specs.Prelude.{Some, None}
use mathlib.Core.Path.{◌≡◌, refl, subst}
use mathlib.Core.List.{List, [], ◌∷◌, ◌++◌, append_assoc}
use Prim.Native.Nat.{ℕ, suc, ◌+◌, ◌-◌, ◌*◌, ◌^◌, ◌≤◌, ◌<◌}
use native.Mathlib.Nat.{add-zero}
use native.Mathlib.Decide.{dec_lt}
use native.Mathlib.Omega.{arith}
use lib.ListN.{length, get_or}
use Rattle.wire.specs.Be.{bytes}
use Rattle.wire.proofs.Numbers.{length_bytes}
use Rattle.model.specs.Tree.{Node, file, device, sub, Entry, weight, used}
use Rattle.model.specs.Render.{View, padded, kind_of, address_of, size_of, entry_bytes, entries_bytes, Shows}
use Rattle.model.specs.Volume.{GoodName}
use Rattle.model.proofs.Alike.{length_entry}
use Rattle.model.proofs.Commit.{shows_one, shows_two}
use Rattle.model.proofs.Entries.{block_ends}
use Rattle.model.proofs.Full.{padded-after}
use Rattle.dir_entry.specs.Entry.{kind_byte, header, head_bytes, place_at, name_at, slot_at}
use Rattle.dir_entry.specs.Shown.{kind_is, head_of}
use Rattle.dir_entry.proofs.Heads.{length_head, slot_shown, name_shown}
use Rattle.dir_entry.proofs.Slots.{stop_offset, stop_empty}

-- ---- one entry

-- Its name is good, its numbers fit their fields, and its address is not 0.
pub record Legible {X : Type 0} (v : View X) (e : Entry X) : Type 0 where
  pub good_name : GoodName e.name
  pub some_address : 1 ≤ address_of v e.node
  pub address : address_of v e.node < 2 ^ 32
  pub size : size_of v e.node < 2 ^ 32
  pub time : e.time < 2 ^ 64

kind_byte_lem : {X : Type 0} (x : Node X) → kind_of x ≡ kind_byte (kind_is x)
unfolding kind_of
kind_byte_lem (file z cs) = refl
kind_byte_lem (device z cs) = refl
kind_byte_lem (sub x) = refl

-- An entry's bytes are those of its fixed part, and its name.
pub entry_bytes_lem : {X : Type 0} (v : View X) (e : Entry X) → entry_bytes v e ≡ head_bytes (head_of v e) ++ e.name
unfolding entry_bytes head_bytes head_of
entry_bytes_lem v e = rw (kind_byte_lem e.node) (simp append_assoc)

-- after the entry at o is the next one
pub head_weight : {X : Type 0} (v : View X) (o : ℕ) (e : Entry X) → o + header + (head_of v e).len ≡ o + weight e
unfolding head_of weight
head_weight v o e = omega arith

-- so that the bound on a block's entries need not count them
pub less_left : (B o f k : ℕ) → B - o ≤ suc f → 1 ≤ k → B - (o + k) ≤ f
less_left B o f k h l = omega arith

-- ---- one block

module _ {X : Type 0} (B : ℕ) (I : List ℕ) (v : View X) (a : ℕ) where
  -- its data, after the next address
  pub data_shown : (z : ℕ) (es : List (Entry X)) → Shows I (B * a) (bytes 4 z ++ padded (B - 4) (entries_bytes v es)) → Shows I (place_at B a 0) (padded (B - 4 - 0) (entries_bytes v es))
  data_shown z es s =
      let x : B * a + length (bytes 4 z) ≡ place_at B a 0 = omega (arith, length_bytes 4 z) in
      let y : B - 4 ≡ B - 4 - 0 = omega arith in
      subst (λ (j : ℕ). Shows I (place_at B a 0) (padded j (entries_bytes v es))) y
      (subst (λ (j : ℕ). Shows I j (padded (B - 4) (entries_bytes v es))) x (shows_two I (B * a) (bytes 4 z) (padded (B - 4) (entries_bytes v es)) s))

  -- the entry at offset o, and those after it
  pub first_shown : (o : ℕ) (e : Entry X) (es : List (Entry X)) → Shows I (place_at B a o) (padded (B - 4 - o) (entries_bytes v (e ∷ es)))
      → Shows I (place_at B a o) (entry_bytes v e) × Shows I (place_at B a (o + weight e)) (padded (B - 4 - (o + weight e)) (entries_bytes v es))
  unfolding entries_bytes
  first_shown o e es s =
      let p : Shows I (place_at B a o) (entry_bytes v e ++ padded (B - 4 - o - length (entry_bytes v e)) (entries_bytes v es))
      = subst (Shows I (place_at B a o)) (padded-after (B - 4 - o) (entry_bytes v e) (entries_bytes v es)) s in
      let x : place_at B a o + length (entry_bytes v e) ≡ place_at B a (o + weight e) = omega (arith, length_entry v e) in
      let y : B - 4 - o - length (entry_bytes v e) ≡ B - 4 - (o + weight e) = omega (arith, length_entry v e) in
      (shows_one I (place_at B a o) (entry_bytes v e) _ p, rw (x, y) at (shows_two I (place_at B a o) (entry_bytes v e) _ p))

  -- after the last entry every byte is zero,
  pub zero_at : (o : ℕ) → Shows I (place_at B a o) (padded (B - 4 - o) (entries_bytes v [])) → (j : ℕ) → j < B - 4 - o → get_or I (place_at B a o + j) 0 ≡ 0
  unfolding used
  zero_at o s j i = block_ends v I (place_at B a o) (B - 4 - o) [] j s (omega arith) i

  -- and the entries stop
  pub block_stops : (o : ℕ) → o ≤ B - 5 → Shows I (place_at B a o) (padded (B - 4 - o) (entries_bytes v [])) → slot_at B I a o ≡ None
  block_stops o h s = go (dec_lt o (B - 22))
    where
      go : Dec (o < B - 22) → slot_at B I a o ≡ None
      go (no q) = stop_offset B I a o (omega arith)
      go (yes q) =
          let z : get_or I (place_at B a o) 0 ≡ 0 = rw add-zero at (zero_at o s 0 (omega arith)) in
          stop_empty B I a o q (omega arith) (zero_at o s 17 (omega arith))

  -- The entry that a block shows at offset o is the one that is read there,
  pub slot_is : (o : ℕ) (e : Entry X) → Legible v e → o + weight e ≤ B - 5 → Shows I (place_at B a o) (entry_bytes v e) → slot_at B I a o ≡ Some (head_of v e)
  unfolding weight head_of
  slot_is o e l h s =
      slot_shown B I a o (head_of v e) l.address l.size l.time l.good_name.some_bytes (omega arith)
      (shows_one I (place_at B a o) (head_bytes (head_of v e)) e.name (subst (Shows I (place_at B a o)) (entry_bytes_lem v e) s))

  -- and so is its name.
  pub name_is : B * a + B ≤ length I → (o : ℕ) (e : Entry X) → o + weight e ≤ B - 5 → Shows I (place_at B a o) (entry_bytes v e) → name_at I (place_at B a o) (length e.name) ≡ e.name
  unfolding weight
  name_is inside o e h s =
      name_shown I (place_at B a o) e.name (omega arith)
      (subst (λ (k : ℕ). Shows I (place_at B a o + k) e.name) (length_head (head_of v e))
      (shows_two I (place_at B a o) (head_bytes (head_of v e)) e.name (subst (Shows I (place_at B a o)) (entry_bytes_lem v e) s)))
