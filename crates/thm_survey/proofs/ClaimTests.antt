-- A claim of a block: one law for each way that it comes out.
use mathlib.Core.Path.{◌≡◌, ap, ◌∙◌}
use mathlib.Core.Bool.{Bool, ◌&&◌}
use mathlib.Core.Option.{none, some}
use mathlib.Core.List.{List, ◌∷◌}
use Prim.Native.Nat.{ℕ, ◌≤◌, ◌<◌}
use native.Mathlib.Omega.{arith}
use lib.Dec.{ltb, eqb}
use borrow.Author.Tests.{le-leb, lt-leb, lt-ltb, le-ltb, eq-eqb, ne_eqb}
use Rattle.wire.proofs.Picks.{pick_true, pick_false}
use Rattle.block.specs.Block.{Area}
use Rattle.model.specs.Render.{count}
use Rattle.thm_survey.specs.Survey.{claim}

module _ (A : Area) (I : List ℕ) (a : ℕ) (seen : List ℕ) where
  pub claim_below : a < A.first → claim A I a seen ≡ none
  unfolding claim
  claim_below h = pick_false _ _ (ap (λ (b : Bool). (b && ltb a A.end) && eqb (count a seen) 0) (lt-leb A.first a h))

  pub claim_above : A.first ≤ a → A.end ≤ a → claim A I a seen ≡ none
  unfolding claim
  claim_above h k = pick_false _ _ (ap (λ (b : Bool). (b && ltb a A.end) && eqb (count a seen) 0) (le-leb A.first a h) ∙ ap (λ (b : Bool). b && eqb (count a seen) 0) (le-ltb a A.end k))

  pub claim-taken : A.first ≤ a → a < A.end → count a seen ≡ 1 → claim A I a seen ≡ none
  unfolding claim
  claim-taken h k e =
      pick_false _ _ (ap (λ (b : Bool). (b && ltb a A.end) && eqb (count a seen) 0) (le-leb A.first a h) ∙ ap (λ (b : Bool). b && eqb (count a seen) 0) (lt-ltb a A.end k)
      ∙ ne_eqb (count a seen) 0 (λ z. omega arith))

  pub claim_free : A.first ≤ a → a < A.end → count a seen ≡ 0 → claim A I a seen ≡ some (a ∷ seen)
  unfolding claim
  claim_free h k e =
      pick_true _ _ (ap (λ (b : Bool). (b && ltb a A.end) && eqb (count a seen) 0) (le-leb A.first a h) ∙ ap (λ (b : Bool). b && eqb (count a seen) 0) (lt-ltb a A.end k)
      ∙ eq-eqb (count a seen) 0 e)
