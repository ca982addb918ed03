-- What the code of the check computes of one block of a directory. Definitions alone.
use Rattle.std.specs.Prelude.{Bool, false, not, ◌||◌, List, ℕ}
use Rattle.std.proofs.Math.Option.{Option, none, some}
use Rattle.wire.specs.Pick.{pick}
use Rattle.block.specs.Block.{Area}
use Rattle.model.specs.Tree.{then}
use Rattle.thm_survey.specs.Survey.{Raw, has_some, claim, raws_from}

-- W3, W4: whether a block of these entries may stand there, or of none that are good: a later one is not empty.
unfoldable pub may_stand : Bool → Option (List Raw) → Bool
may_stand later none = false
may_stand later (some rs) = not later || has_some rs

module _ (A : Area) (I : List ℕ) where
  -- Block a is claimed, and may stand there.
  unfoldable pub block_check : Bool → ℕ → List ℕ → Option (List ℕ)
  block_check later a seen = then (claim A I a seen)
      (λ s. pick (may_stand later (raws_from A.size I A.size a 0)) (some s) none)
