-- What stands at an offset of a block: the ways out of `slot_at`, what an entry there tells, and the slot past a store.
use Rattle.std.specs.Prelude.{Option, Some, None}
use mathlib.Core.Path.{◌≡◌, refl, sym, ap, ◌∙◌, subst}
use mathlib.Core.List.{List}
use Prim.Native.Nat.{ℕ, ◌+◌, ◌-◌, ◌*◌, ◌≤◌, ◌<◌}
use native.Mathlib.Nat.{add-zero, add_assoc}
use native.Mathlib.Decide.{dec_lt}
use native.Mathlib.Omega.{arith}
use lib.Dec.{leb, ltb, eqb}
use lib.ListN.{length, get_or, drop, length-take, length-drop}
use lib.Seq.{ext_get_or, get_or-take, get_or-drop}
use borrow.Author.Tests.{ltb-false, leb-false, eqb-false, lt-ltb, le-ltb, le-leb, lt-leb, eq-eqb, ne_eqb}
use Rattle.wire.specs.Be.{be}
use Rattle.wire.specs.Pick.{pick}
use Rattle.wire.proofs.Numbers.{be_ext}
use Rattle.wire.proofs.Picks.{pick_case}
use Rattle.block.specs.Block.{cell, Kept}
use Rattle.dir_entry.specs.declared.DirEntry.{DirEntry}
use Rattle.dir_entry.specs.Entry.{header, entry_at, place_at, name_at, slot_at}

-- a place in the linked block of an address is one in that block
pub place_is : {B a z m p : ℕ} (o : ℕ) → z ≡ B → m ≡ a → p ≡ place_at z m o → p ≡ place_at B a o
place_is o e f h = h ∙ (λ i. place_at (e i) (f i) o)

-- ---- the ways out, each from the tests that lead there

module _ (B : ℕ) (I : List ℕ) (a o : ℕ) where
  pub stop_offset : B - 22 ≤ o → slot_at B I a o ≡ None
  unfolding slot_at pick
  stop_offset h = rw (le-leb _ _ h)

  stop_kind : o < B - 22 → 2 < get_or I (place_at B a o) 0 → slot_at B I a o ≡ None
  unfolding slot_at pick
  stop_kind h k = rw (lt-leb _ _ h, lt-ltb _ _ k)

  pub stop_empty : o < B - 22 → get_or I (place_at B a o) 0 ≤ 2 → get_or I (place_at B a o + 17) 0 ≡ 0 → slot_at B I a o ≡ None
  unfolding slot_at pick
  stop_empty h k z = rw (lt-leb _ _ h, le-ltb _ _ k, eq-eqb _ _ z)

  stop_long : o < B - 22 → get_or I (place_at B a o) 0 ≤ 2 → (get_or I (place_at B a o + 17) 0 ≡ 0 → ⊥) → B - 5 < o + 18 + get_or I (place_at B a o + 17) 0
      → slot_at B I a o ≡ None
  unfolding slot_at pick
  stop_long h k z l = rw (lt-leb _ _ h, le-ltb _ _ k, ne_eqb _ _ z, lt-ltb _ _ l)

  pub slot_entry : o < B - 22 → get_or I (place_at B a o) 0 ≤ 2 → (get_or I (place_at B a o + 17) 0 ≡ 0 → ⊥) → o + 18 + get_or I (place_at B a o + 17) 0 ≤ B - 5
      → slot_at B I a o ≡ Some (entry_at I (place_at B a o))
  unfolding slot_at pick
  slot_entry h k z l = rw (lt-leb _ _ h, le-ltb _ _ k, ne_eqb _ _ z, le-ltb _ _ l)

-- as code has them: k is the block's capacity, `at` the entry's byte and n its length byte
module _ (B : ℕ) (I : List ℕ) (a o k : ℕ) (c : k ≡ B - 4) where
  pub code_offset : k - 18 ≤ o → None ≡ slot_at B I a o
  code_offset h = sym (stop_offset B I a o (omega arith))

  module _ (at n : ℕ) (e : at ≡ place_at B a o) (h : o < k - 18) where
    pub code_kind : 2 < get_or I at 0 → None ≡ slot_at B I a o
    code_kind l = sym (stop_kind B I a o (omega arith) (rw e at l))

    pub code_empty : get_or I at 0 ≤ 2 → n ≡ get_or I (at + 17) 0 → n ≡ 0 → None ≡ slot_at B I a o
    code_empty l f z = sym (stop_empty B I a o (omega arith) (rw e at l) (rw (f, e) at z))

    pub code_long : get_or I at 0 ≤ 2 → n ≡ get_or I (at + 17) 0 → (n ≡ 0 → ⊥) → k - 1 < o + 18 + n → None ≡ slot_at B I a o
    code_long l f z m = let m' : B - 5 < o + 18 + n = omega arith in sym (stop_long B I a o (omega arith) (rw e at l) (rw (f, e) at z) (rw (f, e) at m'))

    pub code_entry : (r : DirEntry) → get_or I at 0 ≤ 2 → n ≡ get_or I (at + 17) 0 → (n ≡ 0 → ⊥) → o + 18 + n ≤ k - 1 → r ≡ entry_at I at → Some r ≡ slot_at B I a o
    code_entry r l f z m g =
        let m' : o + 18 + n ≤ B - 5 = omega arith in
        sym (slot_entry B I a o (omega arith) (rw e at l) (rw (f, e) at z) (rw (f, e) at m') ∙ ap Some (sym (rw e at g)))

-- ---- what an entry tells

pub record Stands (B : ℕ) (I : List ℕ) (a o : ℕ) (e : DirEntry) : Type 0 where
  pub offset : o < B - 22
  pub kind : get_or I (place_at B a o) 0 ≤ 2
  pub some : 1 ≤ e.len
  pub ends : o + 18 + e.len ≤ B - 5
  pub is : e ≡ entry_at I (place_at B a o)

abbrev StandsIn : ℕ → List ℕ → ℕ → ℕ → Option DirEntry → Type 0
StandsIn B I a o (Some e) = Stands B I a o e
StandsIn B I a o None = Unit {0}

module _ (B : ℕ) (I : List ℕ) (a o : ℕ) where
  stands : o < B - 22 → get_or I (place_at B a o) 0 ≤ 2 → (get_or I (place_at B a o + 17) 0 ≡ 0 → ⊥) → o + 18 + get_or I (place_at B a o + 17) 0 ≤ B - 5
      → Stands B I a o (entry_at I (place_at B a o))
  unfolding entry_at
  stands p q r s = record { offset = p; kind = q; some = omega arith; ends = s; is = refl }

  stands_in : StandsIn B I a o (slot_at B I a o)
  unfolding slot_at
  stands_in =
      pick_case (StandsIn B I a o) (leb (B - 22) o) _ _ (λ _. tt)
      (λ p. pick_case (StandsIn B I a o) (ltb 2 (get_or I (place_at B a o) 0)) _ _ (λ _. tt)
      (λ q. pick_case (StandsIn B I a o) (eqb (get_or I (place_at B a o + 17) 0) 0) _ _ (λ _. tt)
      (λ r. pick_case (StandsIn B I a o) (ltb (B - 5) (o + header + get_or I (place_at B a o + 17) 0)) _ _ (λ _. tt)
      (λ s. stands (leb-false _ _ p) (ltb-false _ _ q) (eqb-false _ _ r) (ltb-false _ _ s)))))

  -- An entry at offset o of block a starts before B - 22, has a name, and ends by B - 5.
  pub slot_stands : (e : DirEntry) → slot_at B I a o ≡ Some e → Stands B I a o e
  slot_stands e p = subst (StandsIn B I a o) p stands_in

-- ---- two images with the same bytes, and so a store

-- the 18 bytes at `at` decide the fixed part
entry_ext : (I J : List ℕ) (at bt : ℕ) → ((i : ℕ) → i < 18 → get_or J (bt + i) 0 ≡ get_or I (at + i) 0) → entry_at J bt ≡ entry_at I at
unfolding entry_at
entry_ext I J at bt h =
    let part : (n k : ℕ) → k + n ≤ 18 → be n J (bt + k) ≡ be n I (at + k)
    = λ n k l. be_ext n J I (bt + k) (at + k) (λ i q. rw (add_assoc bt k i, add_assoc at k i) (h (k + i) (omega arith))) in
    let e : get_or J bt 0 ≡ get_or I at 0 = rw (add-zero bt, add-zero at) at (h 0 (omega arith)) in
    rw (e, part 4 1 (omega arith), part 4 5 (omega arith), part 8 9 (omega arith), h 17 (omega arith))

module _ (B : ℕ) (I J : List ℕ) (a o : ℕ) where
  same_slot : get_or J (place_at B a o) 0 ≡ get_or I (place_at B a o) 0 → get_or J (place_at B a o + 17) 0 ≡ get_or I (place_at B a o + 17) 0
      → entry_at J (place_at B a o) ≡ entry_at I (place_at B a o) → slot_at B J a o ≡ slot_at B I a o
  unfolding slot_at
  same_slot e f g = rw (e, f, g)

  -- those at the place decide the slot; past the last place no byte does
  slot_ext : (o < B - 22 → (i : ℕ) → i < 18 → get_or J (place_at B a o + i) 0 ≡ get_or I (place_at B a o + i) 0) → slot_at B J a o ≡ slot_at B I a o
  slot_ext h = go (dec_lt o (B - 22))
    where
      go : Dec (o < B - 22) → slot_at B J a o ≡ slot_at B I a o
      go (no p) = stop_offset B J a o (omega arith) ∙ sym (stop_offset B I a o (omega arith))
      go (yes p) = same_slot (rw add-zero at (h p 0 (omega arith))) (h p 17 (omega arith)) (entry_ext I J (place_at B a o) (place_at B a o) (h p))

-- the bytes of a name decide it
name_ext : (I J : List ℕ) (at n : ℕ) → length J ≡ length I → ((i : ℕ) → i < n → get_or J (at + 18 + i) 0 ≡ get_or I (at + 18 + i) 0) → name_at J at n ≡ name_at I at n
name_ext I J at n l h =
    ext_get_or 0 (name_at J at n) (name_at I at n) (simp (length-take, length-drop, l))
    (λ i q.
    let m : i < n = omega (arith, simp length-take at q) in
    rw (get_or-take n (drop (at + 18) J) i 0 m, get_or-take n (drop (at + 18) I) i 0 m, get_or-drop (at + 18) J i 0, get_or-drop (at + 18) I i 0) (h i m))

module _ (B : ℕ) (P : ℕ → ℕ → Type 0) (I J : List ℕ) (k : Kept B P I J) (a : ℕ) where
  kept_place : (o i : ℕ) → P a (4 + o + i) → 4 + o + i < B → get_or J (place_at B a o + i) 0 ≡ get_or I (place_at B a o + i) 0
  unfolding cell
  kept_place o i p h =
      let e : place_at B a o + i ≡ B * a + (4 + o + i) = omega arith in
      rw e (k.at a (4 + o + i) p h)

  pub slot_kept : ((p : ℕ) → p < B → P a p) → (o : ℕ) → slot_at B J a o ≡ slot_at B I a o
  slot_kept f o = slot_ext B I J a o (λ l i q. kept_place o i (f (4 + o + i) (omega arith)) (omega arith))

  -- And the name of n bytes after it.
  pub name_kept : (o n : ℕ) → o + 18 + n ≤ B - 5 → ((p : ℕ) → 4 + o + 18 ≤ p → p < 4 + o + 18 + n → P a p) → name_at J (place_at B a o) n ≡ name_at I (place_at B a o) n
  name_kept o n h f =
      name_ext I J (place_at B a o) n k.size
      (λ i q.
      let e : place_at B a o + 18 + i ≡ place_at B a o + (18 + i) = omega arith in
      rw e (kept_place o (18 + i) (f (4 + o + (18 + i)) (omega arith) (omega arith)) (omega arith)))
