-- What holds of whatever a check finds, step by step; the blocks that a check claims.
use mathlib.Core.Path.{◌≡◌, refl, ap, ◌∙◌, subst}
use mathlib.Core.Bool.{Bool, true, false, ◌&&◌}
use mathlib.Core.Option.{Option, none, some}
use mathlib.Core.List.{List, [], ◌∷◌, ◌++◌}
use Prim.Native.Nat.{ℕ, ◌+◌, ◌≤◌, ◌<◌}
use native.Mathlib.Omega.{arith}
use native.Mathlib.Decide.{dec_lt, ℕ_discrete}
use lib.Dec.{ltb, leb, eqb}
use borrow.Author.Tests.{ltb-true, leb-true, eqb-true}
use Rattle.wire.specs.Pick.{pick}
use Rattle.wire.proofs.Picks.{and_both}
use Rattle.block.specs.Block.{Area}
use Rattle.model.specs.Tree.{then}
use Rattle.model.specs.Render.{count}
use Rattle.model.proofs.Lists.{not_some}
use Rattle.model.proofs.Counts.{count_same, count_other, count_none, count_append}
use Rattle.read_dir.specs.Walk.{in_area}
use Rattle.thm_survey.specs.Survey.{Claimed, with_found, claim}

-- ---- whatever is found has P

pub record Each {A : Type 0} (P : A → Type 0) (o : Option A) : Type 0 where
  pub is : (x : A) → o ≡ some x → P x

module _ {A : Type 0} (P : A → Type 0) where
  -- nothing is found
  pub each_none : Each P none
  each_none = record { is = λ x e. absurd (not_some refl e) }

  -- x is found
  pub each_some : (x : A) → P x → Each P (some x)
  each_some x p = record { is = λ y e. let q : x ≡ y = cc in subst P q p }

  -- what follows a step that found something
  pub each_then : {B : Type 0} (o : Option B) (f : B → Option A) → ((x : B) → o ≡ some x → Each P (f x)) → Each P (then o f)
  unfolding then
  each_then none f h = each_none
  each_then (some x) f h = h x refl

  -- one of two, by a test
  pub each_pick : (t : Bool) (o p : Option A) → (t ≡ true → Each P o) → (t ≡ false → Each P p) → Each P (pick t o p)
  unfolding pick
  each_pick true o p h k = h refl
  each_pick false o p h k = k refl

  -- a test that must hold
  pub each_test : (t : Bool) (o : Option A) → (t ≡ true → Each P o) → Each P (pick t o none)
  each_test t o h = each_pick t o none h (λ _. each_none)

-- what is made of what was found
pub each_with : {X Y : Type 0} (P : Claimed Y → Type 0) (f : X → Y) (o : Option (Claimed X))
    → ((c : Claimed X) → o ≡ some c → P (record { found = f c.found; seen = c.seen })) → Each P (with_found f o)
unfolding with_found
each_with P f o h = each_then P o _ (λ c e. each_some P _ (h c e))

-- ---- the blocks that are claimed

-- From `seen` to `now` exactly the blocks xs were claimed, all in D..n-1, and none that was claimed before.
pub record Claims (A : Area) (seen now xs : List ℕ) : Type 0 where
  pub counted : (i : ℕ) → count i now ≡ count i seen + count i xs
  pub range : (i : ℕ) → 1 ≤ count i xs → (A.first ≤ i) × (i < A.end)
  pub once : (i : ℕ) → count i seen ≤ 1 → count i now ≤ 1

module _ (A : Area) where
  -- nothing was claimed
  pub claims_none : (seen : List ℕ) → Claims A seen seen []
  claims_none seen = record { counted = λ i. omega (arith, count_none i); range = λ i h. absurd (omega (arith, count_none i)); once = λ i h. h }

  -- first xs, then ys
  pub claims_both : (r s t xs ys : List ℕ) → Claims A r s xs → Claims A s t ys → Claims A r t (xs ++ ys)
  claims_both r s t xs ys c d =
      record {
        counted = λ i. omega (arith, c.counted i, d.counted i, count_append i xs ys);
        range = λ i h. go i h (dec_lt 0 (count i xs));
        once = λ i h. d.once i (c.once i h);
      }
    where
      go : (i : ℕ) → 1 ≤ count i (xs ++ ys) → Dec (0 < count i xs) → (A.first ≤ i) × (i < A.end)
      go i h (yes p) = c.range i p
      go i h (no p) = d.range i (omega (arith, count_append i xs ys))

  -- the order of the blocks is no matter
  pub claims_same : (s t xs ys : List ℕ) → ((i : ℕ) → count i ys ≡ count i xs) → Claims A s t xs → Claims A s t ys
  claims_same s t xs ys e c =
      record { counted = λ i. omega (arith, c.counted i, e i); range = λ i h. c.range i (omega (arith, e i)); once = c.once }

  -- A block that is claimed is in D..n-1, and it alone is claimed.
  pub record Claim (a : ℕ) (seen now : List ℕ) : Type 0 where
    pub low : A.first ≤ a
    pub high : a < A.end
    pub claims : Claims A seen now (a ∷ [])

  one-claim : (a : ℕ) (seen : List ℕ) → A.first ≤ a → a < A.end → count a seen ≡ 0 → Claim a seen (a ∷ seen)
  one-claim a seen l h z = record { low = l; high = h; claims = record { counted = λ i. at i (ℕ_discrete i a); range = λ i k. within i k (ℕ_discrete i a); once = λ i k. few i k (ℕ_discrete i a) } }
    where
      at : (i : ℕ) → Dec (i ≡ a) → count i (a ∷ seen) ≡ count i seen + count i (a ∷ [])
      at i (yes e) = omega (arith, count_same i a seen e, count_same i a [] e, count_none i)
      at i (no e) = omega (arith, count_other i a seen e, count_other i a [] e, count_none i)

      within : (i : ℕ) → 1 ≤ count i (a ∷ []) → Dec (i ≡ a) → (A.first ≤ i) × (i < A.end)
      within i k (yes e) = (omega arith, omega arith)
      within i k (no e) = absurd (omega (arith, count_other i a [] e, count_none i))

      few : (i : ℕ) → count i seen ≤ 1 → Dec (i ≡ a) → count i (a ∷ seen) ≤ 1
      few i k (yes e) = let y : count i seen ≡ 0 = ap (λ (j : ℕ). count j seen) e ∙ z in omega (arith, count_same i a seen e)
      few i k (no e) = omega (arith, count_other i a seen e)

  -- So it is wherever `claim` answers.
  pub each_claim : (I : List ℕ) (a : ℕ) (seen : List ℕ) → Each (Claim a seen) (claim A I a seen)
  unfolding claim
  each_claim I a seen =
      each_test (Claim a seen) (in_area A I a && eqb (count a seen) 0) (some (a ∷ seen))
      (λ t.
      let p = and_both (in_area A I a) (eqb (count a seen) 0) t in
      let q = and_both (leb A.first a) (ltb a A.end) p.0 in
      each_some (Claim a seen) (a ∷ seen) (one-claim a seen (leb-true A.first a q.0) (ltb-true a A.end q.1) (eqb-true (count a seen) 0 p.1)))
