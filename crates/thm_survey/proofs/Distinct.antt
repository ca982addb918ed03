-- How often a name stands in a list, and that the names of a list are distinct where each stands once at most.
use mathlib.Core.Path.{◌≡◌, refl, sym, ◌∙◌, subst}
use mathlib.Core.Bool.{true, false, not}
use mathlib.Core.Logic.{◌⊎◌, inl, inr}
use mathlib.Core.List.{List, [], ◌∷◌, ◌++◌}
use Prim.Native.Nat.{ℕ, ◌+◌, ◌≤◌}
use native.Mathlib.Omega.{arith}
use borrow.Author.Tests.{not-true}
use Rattle.wire.specs.Pick.{pick, same}
use Rattle.wire.proofs.Picks.{either, not_both, and_both, pick_true, pick_false, same_refl, same_eq}
use Rattle.model.specs.Tree.{Name, any}
use Rattle.check_names.specs.Names.{one_of, distinct}

-- how often a name stands in a list
unfoldable pub times : Name → List Name → ℕ
times x [] = 0
times x (y ∷ ys) = pick (same x y) 1 0 + times x ys

pub times_append : (x : Name) (ys zs : List Name) → times x (ys ++ zs) ≡ times x ys + times x zs
unfolding times
times_append x [] zs = omega arith
times_append x (y ∷ ys) zs = omega (arith, times_append x ys zs)

times_none : (x : Name) (ys : List Name) → one_of x ys ≡ false → times x ys ≡ 0
unfolding one_of any times
times_none x [] h = refl
times_none x (y ∷ ys) h = go (either (same x y)) (times_none x ys)
  where
    go : (same x y ≡ true) ⊎ (same x y ≡ false) → (any (same x) ys ≡ false → times x ys ≡ 0) → pick (same x y) 1 0 + times x ys ≡ 0
    go (inl e) r = absurd (not_both (pick_true true (any (same x) ys) e) h)
    go (inr e) r = omega (arith, pick_false {A = ℕ} 1 0 e, r (sym (pick_false true (any (same x) ys) e) ∙ h))

-- In a list of distinct names each stands once at most.
pub distinct_once : (ys : List Name) → distinct ys ≡ true → (x : Name) → times x ys ≤ 1
unfolding distinct times
distinct_once [] h x = omega arith
distinct_once (y ∷ ys) h x = go (either (same x y)) (distinct_once ys p.1 x)
  where
    p : (not (one_of y ys) ≡ true) × (distinct ys ≡ true)
    p = and_both (not (one_of y ys)) (distinct ys) h

    go : (same x y ≡ true) ⊎ (same x y ≡ false) → times x ys ≤ 1 → pick (same x y) 1 0 + times x ys ≤ 1
    go (inl e) r =
        let z : times x ys ≡ 0 = times_none x ys (subst (λ (w : Name). one_of w ys ≡ false) (sym (same_eq x y e)) (not-true (one_of y ys) p.0)) in
        omega (arith, pick_true {A = ℕ} 1 0 e)
    go (inr e) r = omega (arith, pick_false {A = ℕ} 1 0 e)

-- a name that is not there
not_one : (x : Name) (ys : List Name) → times x ys ≡ 0 → one_of x ys ≡ false
unfolding times one_of any
not_one x [] z = refl
not_one x (y ∷ ys) z = go (either (same x y)) (not_one x ys)
  where
    go : (same x y ≡ true) ⊎ (same x y ≡ false) → (times x ys ≡ 0 → one_of x ys ≡ false) → one_of x (y ∷ ys) ≡ false
    go (inl t) r = absurd (omega (arith, pick_true {A = ℕ} 1 0 t))
    go (inr f) r = pick_false _ _ f ∙ r (omega arith)

-- A list in which each stands once at most is distinct.
pub once_distinct : (xs : List Name) → ((x : Name) → times x xs ≤ 1) → distinct xs ≡ true
unfolding times distinct
once_distinct [] h = refl
once_distinct (x ∷ xs) h =
    let z : times x xs ≡ 0 = omega (arith, h x, pick_true {A = ℕ} 1 0 (same_refl x)) in
    rw (not_one x xs z) (once_distinct xs (λ y. omega (arith, h y)))
