-- How the code goes along the bytes: what is left to do is what was to be done.
use mathlib.Core.Path.{◌≡◌, refl, sym, ap, ◌∙◌}
use mathlib.Core.Bool.{Bool, true, false, ◌||◌, and-true, and-false}
use mathlib.Core.Logic.{◌≢◌}
use mathlib.Core.List.{List, [], ◌∷◌}
use Prim.Native.Nat.{ℕ, zero, suc, ◌+◌, ◌-◌, ◌≤◌, ◌<◌}
use native.Mathlib.Numerals.{add-one}
use native.Mathlib.Omega.{arith}
use lib.Dec.{eqb}
use lib.ListN.{length, get_or, take, drop, drop_of_length-le}
use lib.Seq.{drop-cons}
use borrow.Author.Tests.{ne_eqb}
use Rattle.std.specs.Prelude.{Option, Some, None, MatchOption, unwrap_or}
use Rattle.std.specs.List.{AllWithin, HoldsAt, list_any}
use Rattle.std.proofs.lemmas.Slice.{between_to_end}
use Rattle.text.specs.Text.{Range, never, is_done, step, text_from, is_text, slash, has_byte, is_name}
use Rattle.text.specs.Awaited.{ranges, due, Passed}
use Rattle.text.specs.declared.Due.{Due}
use Rattle.text.proofs.Rows.{plain_begun}
use Rattle.text.proofs.Laws.{never_text}

-- at byte i
next_byte : (l : List ℕ) (i : ℕ) → i < length l → drop i l ≡ get_or l i 0 ∷ drop (i + 1) l
next_byte l i h = rw add-one (drop-cons l i 0 h)

-- ---- the walk

module _ (l : List ℕ) (i : ℕ) (d : Due) (v : text_from (due d) (drop i l) ≡ is_text l) where
  walk_on : (x : List Range) → x ≡ step (due d) (get_or l i 0) → i < length l → text_from x (drop (i + 1) l) ≡ is_text l
  unfolding text_from
  walk_on x e h = ap (λ (y : List Range). text_from y (drop (i + 1) l)) e ∙ sym (ap (text_from (due d)) (next_byte l i h)) ∙ v

  pub walk_again : (x : Due) → due x ≡ step (due d) (get_or l i 0) → i < length l → text_from (due x) (drop (i + 1) l) ≡ is_text l
  walk_again x e h = walk_on (due x) e h

  pub walk_ends : never ≡ step (due d) (get_or l i 0) → i < length l → false ≡ is_text l
  walk_ends e h = sym (never_text (drop (i + 1) l)) ∙ walk_on never e h

  pub walk_done : length l ≤ i → eqb d.left 0 ≡ is_text l
  unfolding text_from ranges
  walk_done h = go d.left ∙ sym (ap (text_from (due d)) (drop_of_length-le l h)) ∙ v
    where
      go : (k : ℕ) → eqb k 0 ≡ is_done (ranges k d.low d.high)
      go zero = refl
      go (suc k) = ne_eqb (suc k) 0 (λ e. omega arith)

pub walk_start : (l : List ℕ) → text_from (ranges 0 0 0) l ≡ is_text l
unfolding ranges
walk_start l = refl

-- ---- the plain bytes that stand first

-- a plain byte that is not a
abbrev pub Plain : ℕ → ℕ → Type 0
Plain a c = (0x20 ≤ c) × (c ≤ 0x7E) × (c ≢ a)

passed_none : (l : List ℕ) (a : ℕ) → Passed l a 0
passed_none l a = record { high = omega arith; text = refl; without = refl }

passed_on : (l : List ℕ) (a i : ℕ) → Passed l a i → i < length l → 0x20 ≤ get_or l i 0 → get_or l i 0 ≤ 0x7E
    → (get_or l i 0 ≡ a → ⊥)
    → Passed l a (i + 1)
unfolding text_from step has_byte
passed_on l a i p h low high n =
    record {
      high = omega arith;
      text = sym (ap is_text (next_byte l i h)
          ∙ ap (λ (y : List Range). text_from y (drop (i + 1) l)) (plain_begun (get_or l i 0) low (omega arith))) ∙ p.text;
      without = sym (ap (has_byte a) (next_byte l i h) ∙ rw (ne_eqb (get_or l i 0) a n)) ∙ p.without;
    }

passed_to : (l : List ℕ) (a n : ℕ) → n ≤ length l → AllWithin (Plain a) l 0 n → Passed l a n
passed_to l a zero h p = passed_none l a
passed_to l a (suc i) h p =
    let q = p i 0 (omega arith) (omega arith) in
    rw (← add-one i) (passed_on l a i (passed_to l a i (omega arith) (λ k d m n. p k d m (omega arith))) (omega arith) q.0 q.1 q.2)

-- up to the first that is not plain, or to the end
pub passed_first : (l : List ℕ) (a : ℕ) (r : Option ℕ) (other : ℕ → Type 0)
    → MatchOption r (AllWithin (Plain a) l 0 (length l)) (λ i. (i < length l) × HoldsAt other l i × AllWithin (Plain a) l 0 i) → Passed l a (unwrap_or r (length l))
passed_first l a None other h = passed_to l a (length l) (omega arith) h
passed_first l a (Some i) other h = passed_to l a i (omega (arith, h.0)) h.2

-- ---- what the library's slices say

-- the test that a byte is there
pub has_is : (a : ℕ) (l : List ℕ) → list_any (λ y. eqb y a) l ≡ has_byte a l
unfolding has_byte
has_is a [] = refl
has_is a (c ∷ l) = ap (λ (b : Bool). eqb c a || b) (has_is a l)

-- a slice to the end
pub rest_is : (l : List ℕ) (n : ℕ) → take (length l - n) (drop n l) ≡ drop n l
rest_is l n = between_to_end l n (length l) (omega arith)

-- ---- the whole: n plain bytes stand first

module _ (l : List ℕ) (a n : ℕ) (p : Passed l a n) where
  all_plain : n ≡ length l → (is_text l ≡ true) × (has_byte a l ≡ false)
  unfolding text_from has_byte
  all_plain e =
      let h : length l ≤ n = omega arith in
      let z : drop n l ≡ [] = drop_of_length-le l h in
      (sym p.text ∙ ap is_text z, sym p.without ∙ ap (has_byte a) z)

  pub text_plain : n ≡ length l → true ≡ is_text l
  text_plain e = sym (all_plain e).0

  pub text_walked : (r : Bool) → r ≡ is_text (drop n l) → r ≡ is_text l
  text_walked r e = e ∙ p.text

module _ (l : List ℕ) (n : ℕ) (p : Passed l slash n) where
  pub name_plain : n ≡ length l → true ≡ is_name l
  unfolding is_name
  name_plain e = let z = all_plain l slash n p e in rw (z.0, z.1)

  module _ (t : Bool) (f : t ≡ has_byte slash (drop n l)) where
    pub name_slash : t ≡ true → false ≡ is_name l
    unfolding is_name
    name_slash e = sym (rw (← p.without, ← f, e) (and-false (is_text l)))

    pub name_walked : t ≡ false → (r : Bool) → r ≡ is_text (drop n l) → r ≡ is_name l
    unfolding is_name
    name_walked e r g = rw (← p.without, ← f, e, ← p.text, ← g) (sym (and-true r))
