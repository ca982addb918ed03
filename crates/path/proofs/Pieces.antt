-- The laws of `split` by its first byte.
use mathlib.Core.Path.{◌≡◌, refl, ◌∙◌}
use mathlib.Core.List.{List, [], ◌∷◌, ◌++◌}
use Prim.Native.Nat.{ℕ}
use borrow.Author.Tests.{eq-eqb, ne_eqb}
use Rattle.wire.proofs.Picks.{pick_true, pick_false}
use Rattle.path.specs.Path.{slash, split}

-- xs before the first piece
unfoldable pub front : List ℕ → List (List ℕ) → List (List ℕ)
front xs [] = xs ∷ []
front xs (y ∷ ys) = (xs ++ y) ∷ ys

pub split-none : split [] ≡ [] ∷ []
unfolding split
split-none = refl

pub split-slash : (c : ℕ) (l : List ℕ) → c ≡ slash → split (c ∷ l) ≡ [] ∷ split l
unfolding split
split-slash c l e = pick_true _ _ (eq-eqb c slash e)

pub split_other : (c : ℕ) (l : List ℕ) → (c ≡ slash → ⊥) → split (c ∷ l) ≡ front (c ∷ []) (split l)
unfolding split front
split_other c l h = go (split l) refl
  where
    go : (ss : List (List ℕ)) → split l ≡ ss → split (c ∷ l) ≡ front (c ∷ []) (split l)
    go [] e = pick_false _ _ (ne_eqb c slash h) ∙ rw e
    go (s ∷ ss) e = pick_false _ _ (ne_eqb c slash h) ∙ rw e
