-- The laws of `pick` and `same`, and of a test that is true or false.
use mathlib.Core.Path.{◌≡◌, refl, sym, ap, ◌∙◌, subst}
use mathlib.Core.Bool.{Bool, true, false, ◌&&◌}
use mathlib.Core.Logic.{◌⊎◌, inl, inr}
use mathlib.Core.List.{List, [], ◌∷◌}
use Prim.Native.Nat.{ℕ, ◌+◌, ◌-◌, ◌<◌}
use lib.ListN.{length, get_or, take, drop}
use lib.Seq.{ext_get_or}
use native.Mathlib.Omega.{arith}
use lib.Dec.{eqb}
use borrow.Author.Tests.{eq-eqb, eqb-true}
use Rattle.std.specs.Cmp.Lexicographic.{pointwise}
use Rattle.wire.specs.Pick.{pick, same}

pub either : (b : Bool) → (b ≡ true) ⊎ (b ≡ false)
either true = inl refl
either false = inr refl

pub not_both : {b : Bool} → b ≡ true → b ≡ false → ⊥
not_both p q = let z : ◌≡◌ {A = ℕ} 0 1 = cc in omega arith

-- two tests that both hold
pub and_both : (a b : Bool) → (a && b) ≡ true → (a ≡ true) × (b ≡ true)
and_both true b h = (refl, h)
and_both false b h = absurd (not_both h refl)

pub both_and : {a b : Bool} → a ≡ true → b ≡ true → (a && b) ≡ true
both_and {a} {b} p q = rw p q

pub and_true : (a : Bool) → (a && true) ≡ a
and_true true = refl
and_true false = refl

pub and_assoc : (a b c : Bool) → ((a && b) && c) ≡ (a && (b && c))
and_assoc true b c = refl
and_assoc false b c = refl

pub pick_true : {A : Type 0} {b : Bool} (x y : A) → b ≡ true → pick b x y ≡ x
unfolding pick
pick_true {A} x y e = ap (λ (b : Bool). pick b x y) e

pub pick_false : {A : Type 0} {b : Bool} (x y : A) → b ≡ false → pick b x y ≡ y
unfolding pick
pick_false x y e = ap (λ (b : Bool). pick b x y) e

-- by cases
pub pick_case : {A : Type 0} (P : A → Type 0) (t : Bool) (x y : A) → (t ≡ true → P x) → (t ≡ false → P y) → P (pick t x y)
unfolding pick
pick_case P true x y f g = f refl
pick_case P false x y f g = g refl

pub same_refl : (n : List ℕ) → same n n ≡ true
unfolding same
same_refl [] = refl
same_refl (a ∷ n) = pick_true _ _ (eq-eqb a a refl) ∙ same_refl n

pub same_eq : (n m : List ℕ) → same n m ≡ true → n ≡ m
unfolding same
same_eq [] [] e = refl
same_eq [] (b ∷ m) e = absurd (not_both e refl)
same_eq (a ∷ n) [] e = absurd (not_both e refl)
same_eq (a ∷ n) (b ∷ m) e = go (either (eqb a b)) (same_eq n m)
  where
    go : (eqb a b ≡ true) ⊎ (eqb a b ≡ false) → (same n m ≡ true → n ≡ m) → a ∷ n ≡ b ∷ m
    go (inl t) r = let p = eqb-true a b t in let q = r (sym (pick_true _ _ t) ∙ e) in cc
    go (inr f) r = absurd (not_both e (pick_false (same n m) false f))

-- in either order
pub same_swap : (l m : List ℕ) → same l m ≡ same m l
same_swap l m = go (either (same l m)) (either (same m l))
  where
    go : (same l m ≡ true) ⊎ (same l m ≡ false) → (same m l ≡ true) ⊎ (same m l ≡ false) → same l m ≡ same m l
    go (inl a) b = let e : l ≡ m = same_eq l m a in subst (λ (x : List ℕ). same l x ≡ same x l) e refl
    go (inr a) (inl b) = let e : m ≡ l = same_eq m l b in subst (λ (x : List ℕ). same x m ≡ same m x) e refl
    go (inr a) (inr b) = a ∙ sym b

-- lists of one length that agree at each place are
pub same_agree : (l m : List ℕ) → length l ≡ length m → ((i : ℕ) → i < length m → get_or l i 0 ≡ get_or m i 0) → same l m ≡ true
same_agree l m e h =
    let q : l ≡ m = ext_get_or 0 l m e (λ i p. h i (omega arith)) in
    subst (λ (x : List ℕ). same x m ≡ true) (sym q) (same_refl m)

-- the test of two slices is the same test
pub same_is : (l m : List ℕ) → pointwise eqb l m ≡ same l m
unfolding same pick
same_is [] [] = refl
same_is [] (b ∷ m) = refl
same_is (a ∷ n) [] = refl
same_is (a ∷ n) (b ∷ m) = go (eqb a b) (same_is n m)
  where
    go : (t : Bool) → pointwise eqb n m ≡ same n m → (t && pointwise eqb n m) ≡ pick t (same n m) false
    go true e = e
    go false e = refl

-- and so of a run of a longer list, as code has it
pub compared : (s t : List ℕ) (at : ℕ) (b : Bool) → b ≡ pointwise eqb (take (at + length t - at) (drop at s)) t
    → b ≡ same (take (length t) (drop at s)) t
compared s t at b h = let e : at + length t - at ≡ length t = omega arith in (rw e at h) ∙ same_is _ _
