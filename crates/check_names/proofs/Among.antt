-- The laws of `one_of`: a name among others.
use mathlib.Core.Path.{◌≡◌, refl, sym, ap, ◌∙◌}
use mathlib.Core.Bool.{Bool, true, false, ◌&&◌}
use mathlib.Core.Logic.{◌⊎◌, inl, inr}
use mathlib.Core.List.{List, [], ◌∷◌, ◌++◌}
use Prim.Native.Nat.{ℕ, zero, suc, ◌-◌, ◌<◌}
use native.Mathlib.Omega.{arith}
use lib.ListN.{take, drop, take-append-drop}
use lib.Seq.{take-nil}
use Rattle.wire.specs.Pick.{same}
use Rattle.wire.proofs.Picks.{either, not_both, same_refl, same_eq}
use Rattle.model.specs.Tree.{Name, any}
use Rattle.model.proofs.Lists.{any_here, any_there}
use Rattle.check_names.specs.Names.{one_of}

-- a test that is not true
pub not_so : (b : Bool) → (b ≡ true → ⊥) → b ≡ false
not_so true f = absurd (f refl)
not_so false f = refl

-- equality does not mind the order
same_sym : (x y : Name) (b : Bool) → same x y ≡ b → same y x ≡ b
same_sym x y true e = ap (λ (z : Name). same y z) (same_eq x y e) ∙ same_refl y
same_sym x y false e = not_so (same y x) (λ t. not_both (ap (λ (z : Name). same x z) (same_eq y x t) ∙ same_refl x) e)

-- ---- one of them

pub none_of_none : (x : Name) → one_of x [] ≡ false
unfolding one_of any
none_of_none x = refl

module _ (x y : Name) (ys : List Name) where
  pub one_here : same x y ≡ true → one_of x (y ∷ ys) ≡ true
  unfolding one_of
  one_here e = any_here (same x) y ys e

  one_there : same x y ≡ false → one_of x (y ∷ ys) ≡ one_of x ys
  unfolding one_of
  one_there e = any_there (same x) y ys e

  pub one_later : one_of x ys ≡ true → one_of x (y ∷ ys) ≡ true
  one_later t = go (either (same x y))
    where
      go : (same x y ≡ true) ⊎ (same x y ≡ false) → one_of x (y ∷ ys) ≡ true
      go (inl e) = one_here e
      go (inr e) = one_there e ∙ t

  pub one_cases : one_of x (y ∷ ys) ≡ true → (x ≡ y) ⊎ (one_of x ys ≡ true)
  one_cases t = go (either (same x y))
    where
      go : (same x y ≡ true) ⊎ (same x y ≡ false) → (x ≡ y) ⊎ (one_of x ys ≡ true)
      go (inl e) = inl (same_eq x y e)
      go (inr e) = inr (sym (one_there e) ∙ t)

pub one_self : (x : Name) (ys : List Name) → one_of x (x ∷ ys) ≡ true
one_self x ys = one_here x x ys (same_refl x)

module _ (x : Name) where
  -- of the first part, of the second
  pub one_first : (ys zs : List Name) → one_of x ys ≡ true → one_of x (ys ++ zs) ≡ true
  one_first [] zs t = absurd (not_both t (none_of_none x))
  one_first (y ∷ ys) zs t = go (one_cases x y ys t) (one_first ys zs)
    where
      go : (x ≡ y) ⊎ (one_of x ys ≡ true) → (one_of x ys ≡ true → one_of x (ys ++ zs) ≡ true) → one_of x (y ∷ (ys ++ zs)) ≡ true
      go (inl e) r = one_here x y (ys ++ zs) (ap (same x) (sym e) ∙ same_refl x)
      go (inr e) r = one_later x y (ys ++ zs) (r e)

  pub one_second : (ys zs : List Name) → one_of x zs ≡ true → one_of x (ys ++ zs) ≡ true
  one_second [] zs t = t
  one_second (y ∷ ys) zs t = one_later x y (ys ++ zs) (one_second ys zs t)

  -- of one name more
  pub one_last : (ys : List Name) (z : Name) → one_of x (ys ++ (z ∷ [])) ≡ true → (one_of x ys ≡ true) ⊎ (x ≡ z)
  one_last [] z t = go (one_cases x z [] t)
    where
      go : (x ≡ z) ⊎ (one_of x [] ≡ true) → (one_of x [] ≡ true) ⊎ (x ≡ z)
      go (inl e) = inr e
      go (inr e) = inl e
  one_last (y ∷ ys) z t = go (one_cases x y (ys ++ (z ∷ [])) t) (one_last ys z)
    where
      go : (x ≡ y) ⊎ (one_of x (ys ++ (z ∷ [])) ≡ true) → (one_of x (ys ++ (z ∷ [])) ≡ true → (one_of x ys ≡ true) ⊎ (x ≡ z)) → (one_of x (y ∷ ys) ≡ true) ⊎ (x ≡ z)
      go (inl e) r = inl (one_here x y ys (ap (same x) (sym e) ∙ same_refl x))
      go (inr e) r = more (r e)
        where
          more : (one_of x ys ≡ true) ⊎ (x ≡ z) → (one_of x (y ∷ ys) ≡ true) ⊎ (x ≡ z)
          more (inl f) = inl (one_later x y ys f)
          more (inr f) = inr f

  -- one of the first is one of all
  pub one-taken : (i : ℕ) (ys : List Name) → one_of x (take i ys) ≡ true → one_of x ys ≡ true
  one-taken i ys t = ap (one_of x) (sym (take-append-drop i ys)) ∙ one_first (take i ys) (drop i ys) t

  -- ---- the search among the first k

  pub search_hit : (k : ℕ) (y : Name) (ys : List Name) → 0 < k → same y x ≡ true → one_of x (take k (y ∷ ys)) ≡ true
  search_hit zero y ys h e = absurd (omega arith)
  search_hit (suc k) y ys h e = one_here x y (take k ys) (same_sym y x true e)

  pub search_miss : (k : ℕ) (y : Name) (ys : List Name) → 0 < k → same y x ≡ false → one_of x (take k (y ∷ ys)) ≡ one_of x (take (k - 1) ys)
  search_miss zero y ys h e = absurd (omega arith)
  search_miss (suc k) y ys h e =
      let q : k ≡ suc k - 1 = omega arith in
      one_there x y (take k ys) (same_sym y x false e) ∙ ap (λ (j : ℕ). one_of x (take j ys)) q

  pub search_end : (k : ℕ) → one_of x (take k []) ≡ false
  search_end k = ap (one_of x) (take-nil k) ∙ none_of_none x

  pub search_none : (k : ℕ) (ys : List Name) → k ≡ 0 → one_of x (take k ys) ≡ false
  search_none k ys z = ap (λ (j : ℕ). one_of x (take j ys)) z ∙ none_of_none x

-- ---- tests

pub and_false : (a b : Bool) → b ≡ false → (a && b) ≡ false
and_false true b e = e
and_false false b e = refl
