-- The parts of the names: the laws of `distinct_in`, and that names are distinct where those of each part are.
use mathlib.Core.Path.{◌≡◌, refl, sym, ap, ◌∙◌}
use mathlib.Core.Bool.{Bool, true, false, not, ◌&&◌}
use mathlib.Core.Logic.{◌⊎◌, inl, inr}
use mathlib.Core.List.{List, [], ◌∷◌, ◌++◌}
use Prim.Native.Nat.{ℕ, ◌%◌, ◌≤◌, ◌<◌}
use native.Mathlib.Nat.{mod-lt}
use native.Mathlib.Omega.{arith}
use lib.Dec.{eqb}
use borrow.Author.Tests.{not-true, eq-eqb}
use Rattle.wire.specs.Pick.{same}
use Rattle.wire.proofs.Picks.{not_both, same_refl, and_both}
use Rattle.model.specs.Tree.{Name}
use Rattle.check_names.specs.Names.{one_of, distinct}
use Rattle.name_filter.specs.Bits.{hash_of}
use Rattle.check_names.specs.Filter.{part_of, met_in, distinct_in}
use Rattle.check_names.proofs.Among.{not_so, and_false, none_of_none, one_cases, one_here, one_later, one_second, one_last}

-- two tests that hold; a test that does not
both_so : (a b : Bool) → a ≡ true → b ≡ true → (a && b) ≡ true
both_so a b p q = ap (λ (t : Bool). t && b) p ∙ q

not_of : (a : Bool) → a ≡ false → not a ≡ true
not_of a e = ap not e

module _ (m k : ℕ) where
  -- what it is to be met
  module _ (x : Name) (ys : List Name) where
    met_both : met_in m k x ys ≡ true → (eqb (part_of m x) k ≡ true) × (one_of x ys ≡ true)
    met_both t = and_both (eqb (part_of m x) k) (one_of x ys) t

    met_so : eqb (part_of m x) k ≡ true → one_of x ys ≡ true → met_in m k x ys ≡ true
    met_so p q = both_so (eqb (part_of m x) k) (one_of x ys) p q

    unmet : one_of x ys ≡ false → met_in m k x ys ≡ false
    unmet f = and_false (eqb (part_of m x) k) (one_of x ys) f

  same_part : (x y : Name) → x ≡ y → eqb (part_of m x) k ≡ true → eqb (part_of m y) k ≡ true
  same_part x y e u = ap (λ (z : Name). eqb (part_of m z) k) (sym e) ∙ u

  -- a name of the part that was there before
  pub part_hit : (ps : List Name) (x : Name) (rest : List Name) → met_in m k x ps ≡ true → distinct_in m k (ps ++ x ∷ rest) ≡ false
  unfolding distinct_in
  part_hit [] x rest t = absurd (not_both (met_both x [] t).1 (none_of_none x))
  part_hit (p ∷ ps) x rest t = go (met_both x (p ∷ ps) t).0 (one_cases x p ps (met_both x (p ∷ ps) t).1) (part_hit ps x rest)
    where
      go : eqb (part_of m x) k ≡ true → (x ≡ p) ⊎ (one_of x ps ≡ true)
          → (met_in m k x ps ≡ true → distinct_in m k (ps ++ x ∷ rest) ≡ false)
          → (not (met_in m k p (ps ++ x ∷ rest)) && distinct_in m k (ps ++ x ∷ rest)) ≡ false
      go q (inl e) r =
          let t : one_of p (ps ++ x ∷ rest) ≡ true
          = one_second p ps (x ∷ rest) (one_here p x rest (ap (same p) e ∙ same_refl p)) in
          ap (λ (b : Bool). not b && distinct_in m k (ps ++ x ∷ rest)) (met_so p (ps ++ x ∷ rest) (same_part x p e q) t)
      go q (inr o) r = and_false (not (met_in m k p (ps ++ x ∷ rest))) (distinct_in m k (ps ++ x ∷ rest)) (r (met_so x ps q o))

  -- a name more that was not, or is of another part
  pub part_more : (ps : List Name) (x : Name)
      → distinct_in m k ps ≡ true → met_in m k x ps ≡ false → distinct_in m k (ps ++ (x ∷ [])) ≡ true
  unfolding distinct_in
  part_more [] x d f = ap (λ (b : Bool). not b && true) (unmet x [] (none_of_none x))
  part_more (p ∷ ps) x d f =
      let q = and_both (not (met_in m k p ps)) (distinct_in m k ps) d in
      let old : met_in m k p ps ≡ false = not-true (met_in m k p ps) q.0 in
      let now : met_in m k p (ps ++ (x ∷ [])) ≡ false
      = not_so (met_in m k p (ps ++ (x ∷ [])))
      (λ t. let u = met_both p (ps ++ (x ∷ [])) t in apart old u.0 (one_last p ps x u.1)) in
      let later : met_in m k x ps ≡ false
      = not_so (met_in m k x ps)
      (λ t. let u = met_both x ps t in not_both (met_so x (p ∷ ps) u.0 (one_later x p ps u.1)) f) in
      both_so (not (met_in m k p (ps ++ (x ∷ [])))) (distinct_in m k (ps ++ (x ∷ []))) (not_of (met_in m k p (ps ++ (x ∷ []))) now)
      (part_more ps x q.1 later)
    where
      apart : met_in m k p ps ≡ false → eqb (part_of m p) k ≡ true → (one_of p ps ≡ true) ⊎ (p ≡ x) → ⊥
      apart old u (inl o) = not_both (met_so p ps u o) old
      apart old u (inr e) = not_both (met_so x (p ∷ ps) (same_part p x e u) (one_here x p ps (ap (same x) e ∙ same_refl x))) f

  -- where all names are distinct those of a part are
  part_distinct : (xs : List Name) → distinct xs ≡ true → distinct_in m k xs ≡ true
  unfolding distinct_in distinct
  part_distinct [] d = refl
  part_distinct (x ∷ xs) d =
      let q = and_both (not (one_of x xs)) (distinct xs) d in
      both_so (not (met_in m k x xs)) (distinct_in m k xs) (not_of (met_in m k x xs) (unmet x xs (not-true (one_of x xs) q.0)))
      (part_distinct xs q.1)

-- and where those of each part are distinct all are
parts_distinct : (m : ℕ) (xs : List Name) → 0 < m → ((k : ℕ) → k < m → distinct_in m k xs ≡ true) → distinct xs ≡ true
unfolding distinct_in distinct
parts_distinct m [] h d = refl
parts_distinct m (x ∷ xs) h d =
    let j : ℕ = part_of m x in
    let own = and_both (not (met_in m j x xs)) (distinct_in m j xs) (d j (mod-lt (hash_of x % 65521) h)) in
    let alone : one_of x xs ≡ false
    = not_so (one_of x xs) (λ t. not_both (met_so m j x xs (eq-eqb j j refl) t) (not-true (met_in m j x xs) own.0)) in
    both_so (not (one_of x xs)) (distinct xs) (not_of (one_of x xs) alone)
    (parts_distinct m xs h (λ k l. (and_both (not (met_in m k x xs)) (distinct_in m k xs) (d k l)).1))

-- ---- how `distinct` goes through the parts of the names xs, where t says that the walk has ended

-- the parts below k are tested
abbrev pub Tested : Bool → List Name → ℕ → ℕ → Type 0
Tested t xs m k = (j : ℕ) → j < k → (t && distinct_in m j xs) ≡ true

module _ (t : Bool) (xs : List Name) (m k : ℕ) where
  pub tested_all : Tested t xs m k → 0 < m → m ≤ k → true ≡ (t && distinct xs)
  tested_all v h l =
      let all : (j : ℕ) → j < m → (t ≡ true) × (distinct_in m j xs ≡ true)
      = λ j u. and_both t (distinct_in m j xs) (v j (omega arith)) in
      sym (both_so t (distinct xs) (all 0 h).0 (parts_distinct m xs h (λ j u. (all j u).1)))

  pub tested_not : (r : Bool) → r ≡ (t && distinct_in m k xs) → r ≡ false → false ≡ (t && distinct xs)
  tested_not r e u = sym (not_so (t && distinct xs) (λ d.
      let q = and_both t (distinct xs) d in
      not_both (both_so t (distinct_in m k xs) q.0 (part_distinct m k xs q.1)) (sym e ∙ u)))
