-- What each entry of a walk is, and what an answer says of the walk.
use Rattle.std.specs.Prelude.{Some, Ok}
use mathlib.Core.Path.{◌≡◌, refl, sym, ap, ◌∙◌, subst}
use mathlib.Core.Bool.{true, false}
use mathlib.Core.Logic.{◌⊎◌, inl, inr}
use mathlib.Core.List.{List}
use Prim.Native.Nat.{ℕ, zero, suc, ◌-◌, ◌≤◌, ◌<◌}
use native.Mathlib.Omega.{arith}
use lib.Dec.{eqb}
use borrow.Author.Tests.{eqb-false}
use Rattle.wire.specs.Pick.{same}
use Rattle.wire.proofs.Picks.{either, pick_true, pick_false, same_eq, pick_case}
use Rattle.block.specs.Block.{Area}
use Rattle.dir_entry.specs.declared.DirEntry.{DirEntry}
use Rattle.dir_entry.specs.Entry.{place_at, name_at, slot_at}
use Rattle.read_dir.specs.Walk.{Walk, item, finished, damaged, shown, entries_from, chain_from, walk}
use Rattle.read_dir.specs.Cursor.{items}
use Rattle.read_dir.specs.Finds.{placed, find_in, skip, list_from}
use Rattle.read_dir.proofs.Unroll.{entries_ind, chain_ind}
use Rattle.read_dir.specs.declared.Placed.{Placed}

-- P holds of each entry, with its block, its offset and its name.
abbrev pub Each : (DirEntry → ℕ → ℕ → List ℕ → Type 0) → Walk → Type 0
Each P (item e a o x w) = P e a o x × Each P w
Each P finished = Unit {0}
Each P damaged = Unit {0}

-- An entry of the walk is what stands at its place, in a block of D..n-1, with an address and under its name.
pub record Item (A : Area) (I : List ℕ) (e : DirEntry) (a o : ℕ) (x : List ℕ) : Type 0 where
  pub from : A.first ≤ a
  pub below : a < A.end
  pub stands : slot_at A.size I a o ≡ Some e
  pub address : e.addr.0 ≡ 0 → ⊥
  pub name : x ≡ name_at I (place_at A.size a o) e.len

module _ (A : Area) (I : List ℕ) where
  entries_each : (a : ℕ) (w : Walk) → A.first ≤ a → a < A.end → Each (Item A I) w → (f o : ℕ) → Each (Item A I) (entries_from A I f a o w)
  unfolding shown
  entries_each a w h l i =
      entries_ind A I a w (λ o v. Each (Item A I) v) (λ o. i)
      (λ o e v p q.
      pick_case (Each (Item A I)) (eqb e.addr.0 0) _ _ (λ _. q)
      (λ z. (record { from = h; below = l; stands = p; address = eqb-false _ _ z; name = refl }, q)))

  pub chain_each : (k a : ℕ) → Each (Item A I) (chain_from A I k a)
  chain_each =
      chain_ind A I (λ k a w. Each (Item A I) w) (λ k a. tt)
      (λ k a h l z. entries_each a finished h l tt A.size 0)
      (λ k a w h l z q. entries_each a w h l q A.size 0)

-- ---- an answer of a lookup

-- What holds of each entry holds of the one that is found, under the name asked for;
found_each : (P : DirEntry → ℕ → ℕ → List ℕ → Type 0) (name : List ℕ) (w : Walk) (y : Placed) → Each P w → find_in name w ≡ Ok (Some y) → P y.entry y.place.block.0 y.place.offset name
unfolding find_in
found_each P name (item d a o x w) y i f = go (either (same x name)) (λ g. found_each P name w y i.1 g)
  where
    go : (same x name ≡ true) ⊎ (same x name ≡ false) → (find_in name w ≡ Ok (Some y) → P y.entry y.place.block.0 y.place.offset name) → P y.entry y.place.block.0 y.place.offset name
    go (inl t) ih =
        let z : Placed = record { entry = d; place = placed a o } in
        let q : Ok (Some z) ≡ find_in name (item d a o x w) = sym (pick_true _ _ t) in
        let s : Some z ≡ Some y = cc in
        let g : z ≡ y = cc in
        let qx : x ≡ name = same_eq x name t in
        subst (λ (v : Placed). P v.entry v.place.block.0 v.place.offset name) g (subst (P d a o) qx i.0)
    go (inr t) ih = ih (sym (pick_false _ _ t) ∙ f)
found_each P name finished y i f = absurd (let z : ◌≡◌ {A = ℕ} 0 1 = cc in omega arith)
found_each P name damaged y i f = absurd (let z : ◌≡◌ {A = ℕ} 0 1 = cc in omega arith)

-- so it is an entry of the directory under that name.
pub found_item : (A : Area) (I : List ℕ) (dir : ℕ) (name : List ℕ) (y : Placed) → find_in name (walk A I dir) ≡ Ok (Some y) → Item A I y.entry y.place.block.0 y.place.offset name
found_item A I dir name y f = found_each (Item A I) name (walk A I dir) y (chain_each A I (A.end - A.first) dir) f

-- ---- a listing past the last entry

-- the walk comes to its end
abbrev pub Whole : Walk → Type 0
Whole (item e a o x w) = Whole w
Whole finished = Unit {0}
Whole damaged = ⊥

skip-past : (i : ℕ) (w : Walk) → Whole w → items w ≤ i → skip i w ≡ finished
unfolding skip items
skip-past zero (item e a o x w) h l = absurd (omega arith)
skip-past zero finished h l = refl
skip-past zero damaged h l = absurd h
skip-past (suc i) (item e a o x w) h l = skip-past i w h (omega arith)
skip-past (suc i) finished h l = refl
skip-past (suc i) damaged h l = absurd h

-- C6: from a number past the last entry, 0 bytes and that number.
pub list_past : (cap i : ℕ) (w : Walk) → Whole w → items w ≤ i → list_from cap 0 i (skip i w) ≡ Ok (record { bytes = 0; next = i })
unfolding list_from
list_past cap i w h l = ap (list_from cap 0 i) (skip-past i w h l)
