-- The laws of `any`, `first`, `on_first`, `less_first`: the first of a list that passes a test; of `then`; and of `All`.
use mathlib.Core.Path.{◌≡◌, refl, sym, ap, ◌∙◌, subst}
use mathlib.Core.Bool.{Bool, true, false}
use mathlib.Core.Logic.{◌⊎◌, inl, inr}
use mathlib.Core.Option.{Option, none, some}
use mathlib.Core.List.{List, [], ◌∷◌, ◌++◌}
use Prim.Native.Nat.{ℕ}
use native.Mathlib.Omega.{arith}
use lib.ListN.{length}
use Rattle.wire.proofs.Picks.{either, not_both, pick_true, pick_false}
use Rattle.model.specs.Tree.{any, first, on_first, less_first, then}
use Rattle.model.specs.Volume.{All}

pub not_some : {A : Type 0} {o : Option A} {x : A} → o ≡ none → o ≡ some x → ⊥
not_some p q = let z : ◌≡◌ {A = ℕ} 0 1 = cc in omega arith

pub then_some : {A B : Type 0} {o : Option A} {x : A} (f : A → Option B) → o ≡ some x → then o f ≡ f x
unfolding then
then_some f e = ap (λ (o : Option _). then o f) e

pub then-none : {A B : Type 0} {o : Option A} (f : A → Option B) → o ≡ none → then o f ≡ none
unfolding then
then-none f e = ap (λ (o : Option _). then o f) e

pub length_none : {A : Type 0} (l : List A) → length l ≡ 0 → l ≡ []
length_none [] h = refl
length_none (x ∷ l) h = absurd (omega arith)

-- ---- all of a list, and of its parts

pub all_append : {A : Type 0} (P : A → Type 0) (l m : List A) → All P l → All P m → All P (l ++ m)
all_append P [] m a b = b
all_append P (x ∷ l) m a b = (a.0, all_append P l m a.1 b)

pub all_left : {A : Type 0} (P : A → Type 0) (xs ys : List A) → All P (xs ++ ys) → All P xs
all_left P [] ys a = tt
all_left P (x ∷ xs) ys a = (a.0, all_left P xs ys a.1)

pub all_right : {A : Type 0} (P : A → Type 0) (xs ys : List A) → All P (xs ++ ys) → All P ys
all_right P [] ys a = a
all_right P (x ∷ xs) ys a = all_right P xs ys a.1

pub all_mid : {A : Type 0} (P : A → Type 0) (xs : List A) (y : A) (ys : List A) → All P (xs ++ (y ∷ ys)) → P y
all_mid P xs y ys a = (all_right P xs (y ∷ ys) a).0

-- ---- the first that passes

-- a step of each, by the test of the head
module _ {A : Type 0} (q : A → Bool) (x : A) (xs : List A) where
  module _ (e : q x ≡ true) where
    pub any_here : any q (x ∷ xs) ≡ true
    unfolding any
    any_here = pick_true _ _ e

    pub first_here : first q (x ∷ xs) ≡ some x
    unfolding first
    first_here = pick_true _ _ e

    pub on_first_here : (h : A → A) → on_first q h (x ∷ xs) ≡ h x ∷ xs
    unfolding on_first
    on_first_here h = pick_true _ _ e

    pub less_first_here : less_first q (x ∷ xs) ≡ xs
    unfolding less_first
    less_first_here = pick_true _ _ e

  module _ (e : q x ≡ false) where
    pub any_there : any q (x ∷ xs) ≡ any q xs
    unfolding any
    any_there = pick_false _ _ e

    pub first_there : first q (x ∷ xs) ≡ first q xs
    unfolding first
    first_there = pick_false _ _ e

    pub on_first_there : (h : A → A) → on_first q h (x ∷ xs) ≡ x ∷ on_first q h xs
    unfolding on_first
    on_first_there h = pick_false _ _ e

    pub less_first_there : less_first q (x ∷ xs) ≡ x ∷ less_first q xs
    unfolding less_first
    less_first_there = pick_false _ _ e

  pub none_head : any q (x ∷ xs) ≡ false → q x ≡ false
  none_head n = go (either (q x))
    where
      go : (q x ≡ true) ⊎ (q x ≡ false) → q x ≡ false
      go (inl e) = absurd (not_both (any_here e) n)
      go (inr e) = e

  pub none_tail : any q (x ∷ xs) ≡ false → any q xs ≡ false
  none_tail n = sym (any_there (none_head n)) ∙ n

module _ {A : Type 0} (q : A → Bool) where
  -- where none passes
  pub on_first-none : (h : A → A) (l : List A) → any q l ≡ false → on_first q h l ≡ l
  unfolding on_first
  on_first-none h [] n = refl
  on_first-none h (x ∷ xs) n = on_first_there q x xs (none_head q x xs n) h ∙ ap (λ (l : List A). x ∷ l) (on_first-none h xs (none_tail q x xs n))

  pub first_none : (l : List A) → any q l ≡ false → first q l ≡ none
  unfolding first
  first_none [] n = refl
  first_none (x ∷ xs) n = first_there q x xs (none_head q x xs n) ∙ first_none xs (none_tail q x xs n)

  -- one that passes, after others that do not
  module _ (x : A) (e : q x ≡ true) where
    pub any_last : (l : List A) → any q (l ++ (x ∷ [])) ≡ true
    any_last [] = any_here q x [] e
    any_last (y ∷ l) = go (either (q y)) (any_last l)
      where
        go : (q y ≡ true) ⊎ (q y ≡ false) → any q (l ++ (x ∷ [])) ≡ true → any q (y ∷ (l ++ (x ∷ []))) ≡ true
        go (inl f) r = any_here q y _ f
        go (inr f) r = any_there q y _ f ∙ r

    pub on_first_last : (h : A → A) (l : List A) → any q l ≡ false → on_first q h (l ++ (x ∷ [])) ≡ l ++ (h x ∷ [])
    on_first_last h [] n = on_first_here q x [] e h
    on_first_last h (y ∷ l) n = on_first_there q y (l ++ (x ∷ [])) (none_head q y l n) h ∙ ap (λ (m : List A). y ∷ m) (on_first_last h l (none_tail q y l n))

    pub less_first_last : (l : List A) → any q l ≡ false → less_first q (l ++ (x ∷ [])) ≡ l
    less_first_last [] n = less_first_here q x [] e
    less_first_last (y ∷ l) n = less_first_there q y (l ++ (x ∷ [])) (none_head q y l n) ∙ ap (λ (m : List A). y ∷ m) (less_first_last l (none_tail q y l n))

  -- the first passes
  pub first_passes : (l : List A) (x : A) → first q l ≡ some x → q x ≡ true
  unfolding first
  first_passes [] x f = absurd (not_some refl f)
  first_passes (y ∷ l) x f = go (either (q y)) (first_passes l x)
    where
      go : (q y ≡ true) ⊎ (q y ≡ false) → (first q l ≡ some x → q x ≡ true) → q x ≡ true
      go (inl e) r = let both : some y ≡ some x = sym (first_here q y l e) ∙ f in let k : y ≡ x = cc in subst (λ (z : A). q z ≡ true) k e
      go (inr e) r = r (sym (first_there q y l e) ∙ f)

  -- two changes of the first are one
  pub on_first_twice : (h k : A → A) → ((x : A) → q x ≡ true → q (k x) ≡ true) → (l : List A) → on_first q h (on_first q k l) ≡ on_first q (λ x. h (k x)) l
  unfolding on_first
  on_first_twice h k s [] = refl
  on_first_twice h k s (x ∷ xs) = go (either (q x)) (on_first_twice h k s xs)
    where
      go : (q x ≡ true) ⊎ (q x ≡ false) → on_first q h (on_first q k xs) ≡ on_first q (λ y. h (k y)) xs
          → on_first q h (on_first q k (x ∷ xs)) ≡ on_first q (λ y. h (k y)) (x ∷ xs)
      go (inl e) r = ap (on_first q h) (on_first_here q x xs e k) ∙ on_first_here q (k x) xs (s x e) h ∙ sym (on_first_here q x xs e (λ y. h (k y)))
      go (inr e) r =
          ap (on_first q h) (on_first_there q x xs e k) ∙ on_first_there q x (on_first q k xs) e h ∙ ap (λ (l : List A). x ∷ l) r
          ∙ sym (on_first_there q x xs e (λ y. h (k y)))

  -- what is done to the first alone counts
  pub on_first_ext : (h k : A → A) (l : List A) → ((x : A) → first q l ≡ some x → h x ≡ k x) → on_first q h l ≡ on_first q k l
  unfolding on_first
  on_first_ext h k [] s = refl
  on_first_ext h k (x ∷ xs) s = go (either (q x)) (on_first_ext h k xs)
    where
      go : (q x ≡ true) ⊎ (q x ≡ false) → (((y : A) → first q xs ≡ some y → h y ≡ k y) → on_first q h xs ≡ on_first q k xs) → on_first q h (x ∷ xs) ≡ on_first q k (x ∷ xs)
      go (inl e) r = on_first_here q x xs e h ∙ ap (λ (y : A). y ∷ xs) (s x (first_here q x xs e)) ∙ sym (on_first_here q x xs e k)
      go (inr e) r =
          on_first_there q x xs e h ∙ ap (λ (l : List A). x ∷ l) (r (λ y f. s y (first_there q x xs e ∙ f))) ∙ sym (on_first_there q x xs e k)

  pub on_first_same : (h : A → A) (l : List A) → ((x : A) → first q l ≡ some x → h x ≡ x) → on_first q h l ≡ l
  unfolding on_first
  on_first_same h [] s = refl
  on_first_same h (x ∷ xs) s = go (either (q x)) (on_first_same h xs)
    where
      go : (q x ≡ true) ⊎ (q x ≡ false) → (((y : A) → first q xs ≡ some y → h y ≡ y) → on_first q h xs ≡ xs) → on_first q h (x ∷ xs) ≡ x ∷ xs
      go (inl e) r = on_first_here q x xs e h ∙ ap (λ (y : A). y ∷ xs) (s x (first_here q x xs e))
      go (inr e) r = on_first_there q x xs e h ∙ ap (λ (l : List A). x ∷ l) (r (λ y f. s y (first_there q x xs e ∙ f)))

  -- the first after it was changed
  pub first_on_first : (h : A → A) (l : List A) (x : A) → first q l ≡ some x → q (h x) ≡ true → first q (on_first q h l) ≡ some (h x)
  unfolding first
  first_on_first h [] x f t = absurd (not_some refl f)
  first_on_first h (y ∷ l) x f t = go (either (q y)) (first_on_first h l x)
    where
      go : (q y ≡ true) ⊎ (q y ≡ false) → (first q l ≡ some x → q (h x) ≡ true → first q (on_first q h l) ≡ some (h x)) → first q (on_first q h (y ∷ l)) ≡ some (h x)
      go (inl e) r =
          let both : some y ≡ some x = sym (first_here q y l e) ∙ f in let k : y ≡ x = cc in
          ap (first q) (on_first_here q y l e h ∙ ap (λ (z : A). h z ∷ l) k) ∙ first_here q (h x) l t
      go (inr e) r =
          ap (first q) (on_first_there q y l e h) ∙ first_there q y (on_first q h l) e ∙ r (sym (first_there q y l e) ∙ f) t

  pub any-on_first : (h : A → A) → ((x : A) → q x ≡ true → q (h x) ≡ true) → (l : List A) → any q l ≡ true → any q (on_first q h l) ≡ true
  unfolding any
  any-on_first h s [] a = absurd (not_both a refl)
  any-on_first h s (x ∷ xs) a = go (either (q x)) (any-on_first h s xs)
    where
      go : (q x ≡ true) ⊎ (q x ≡ false) → (any q xs ≡ true → any q (on_first q h xs) ≡ true) → any q (on_first q h (x ∷ xs)) ≡ true
      go (inl e) r = ap (any q) (on_first_here q x xs e h) ∙ any_here q (h x) xs (s x e)
      go (inr e) r = ap (any q) (on_first_there q x xs e h) ∙ any_there q x (on_first q h xs) e ∙ r (sym (any_there q x xs e) ∙ a)
