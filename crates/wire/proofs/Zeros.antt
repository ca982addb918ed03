-- The test that bytes are zero.
use mathlib.Core.Path.{◌≡◌, refl, sym, ap, ◌∙◌}
use mathlib.Core.Bool.{Bool, true, ◌&&◌}
use mathlib.Core.List.{List}
use Prim.Native.Nat.{ℕ, zero, suc, ◌+◌, ◌-◌, ◌≤◌, ◌<◌}
use native.Mathlib.Nat.{add-zero}
use native.Mathlib.Omega.{arith}
use lib.Dec.{eqb}
use lib.ListN.{get_or}
use borrow.Author.Tests.{eqb-true, eq-eqb}
use Rattle.wire.specs.Pick.{zero_from}
use Rattle.wire.proofs.Picks.{and_both, and_true, and_assoc}

-- bytes that pass the test are zero
pub zeros_shown : (I : List ℕ) (p k : ℕ) → zero_from I p k ≡ true → (i : ℕ) → i < k → get_or I (p + i) 0 ≡ 0
unfolding zero_from
zeros_shown I p zero h i q = absurd (omega arith)
zeros_shown I p (suc k) h zero q = rw add-zero (eqb-true (get_or I p 0) 0 (and_both (eqb (get_or I p 0) 0) (zero_from I (suc p) k) h).0)
zeros_shown I p (suc k) h (suc i) q =
    let e : p + suc i ≡ suc p + i = omega arith in
    ap (λ (j : ℕ). get_or I j 0) e ∙ zeros_shown I (suc p) k (and_both (eqb (get_or I p 0) 0) (zero_from I (suc p) k) h).1 i (omega arith)

pub zeros_pass : (I : List ℕ) (k p : ℕ) → ((j : ℕ) → j < k → get_or I (p + j) 0 ≡ 0) → zero_from I p k ≡ true
unfolding zero_from
zeros_pass I zero p z = refl
zeros_pass I (suc k) p z =
    let h : get_or I p 0 ≡ 0 = rw add-zero at (z 0 (omega arith)) in
    rw (eq-eqb (get_or I p 0) 0 h)
    (zeros_pass I k (suc p) (λ j l. let e : suc p + j ≡ p + suc j = omega arith in ap (λ (x : ℕ). get_or I x 0) e ∙ z (suc j) (omega arith)))

-- ---- the loop that tests them: what it found, and what is left to test, is what was to be tested

abbrev pub Left : List ℕ → ℕ → ℕ → Bool → ℕ → Type 0
Left l at n ok i = (ok && zero_from l (at + i) (n - i)) ≡ zero_from l at n

pub left_start : (l : List ℕ) (at n i : ℕ) (ok : Bool) → i ≡ 0 → ok ≡ true → Left l at n ok i
left_start l at n i ok e t =
    let f : at + i ≡ at = omega arith in
    let g : n - i ≡ n = omega arith in
    ap (λ (b : Bool). b && zero_from l (at + i) (n - i)) t ∙ ap (λ (x : ℕ). zero_from l x (n - i)) f ∙ ap (zero_from l at) g

module _ (l : List ℕ) (at n i : ℕ) (ok : Bool) (v : Left l at n ok i) where
  pub left_more : (r : Bool) (x : ℕ) → i < n → x ≡ get_or l (at + i) 0 → r ≡ (ok && eqb x 0) → Left l at n r (i + 1)
  unfolding zero_from
  left_more r x h e q =
      let k : n - i ≡ suc (n - (i + 1)) = omega arith in
      let f : at + (i + 1) ≡ suc (at + i) = omega arith in
      let z : Bool = zero_from l (suc (at + i)) (n - (i + 1)) in
      ap (λ (y : ℕ). r && zero_from l y (n - (i + 1))) f
      ∙ ap (λ (b : Bool). b && z) (q ∙ ap (λ (y : ℕ). ok && eqb y 0) e)
      ∙ and_assoc ok (eqb (get_or l (at + i) 0) 0) z
      ∙ ap (λ (m : ℕ). ok && zero_from l (at + i) m) (sym k)
      ∙ v

  pub left_none : n ≤ i → ok ≡ zero_from l at n
  unfolding zero_from
  left_none h = let k : n - i ≡ 0 = omega arith in sym (and_true ok) ∙ ap (λ (m : ℕ). ok && zero_from l (at + i) m) (sym k) ∙ v
