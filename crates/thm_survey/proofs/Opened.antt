-- The check of a directory's blocks and then of its names, as its code does it: on the names of the walk.
use mathlib.Core.Path.{◌≡◌, sym, ap, ◌∙◌}
use mathlib.Core.Bool.{Bool, ◌&&◌}
use mathlib.Core.Option.{Option, none, some}
use mathlib.Core.List.{List}
use Prim.Native.Nat.{ℕ}
use Rattle.wire.specs.Pick.{pick}
use Rattle.block.specs.Block.{Area}
use Rattle.model.specs.Tree.{then}
use Rattle.check_names.specs.Names.{distinct, names_in, ends}
use Rattle.read_dir.specs.Walk.{walk}
use Rattle.thm_survey.specs.Survey.{all_names, blocks_of, seen_of}
use Rattle.thm_survey.specs.Steps.{open_dir}
use Rattle.thm_survey.proofs.Walked.{open_is}
use Rattle.thm_survey.proofs.Seen.{then-then, then_same, seen_then, then_pass, seen_pass, then_seen}

module _ (A : Area) (I : List ℕ) where
  -- A directory's blocks, then its names, then whatever follows.
  pub open_then : {X : Type 0} (a : ℕ) (seen : List ℕ) (f : List ℕ → Option X)
      → then (seen_of (open_dir A I a seen)) f ≡ then (blocks_of A I a seen) (λ c. pick (distinct (all_names c.found)) (f c.seen) none)
  unfolding open_dir
  open_then a seen f =
      then_seen _ f
      ∙ then-then (blocks_of A I a seen) _ _
      ∙ then_same (blocks_of A I a seen) _ _ (λ c _. then_pass (distinct (all_names c.found)) c (λ c. f c.seen))

  -- The names of the walk say the same.
  pub open_steps : (a : ℕ) (seen : List ℕ)
      → seen_of (open_dir A I a seen)
      ≡ then (seen_of (blocks_of A I a seen)) (λ s. pick (ends (walk A I a) && distinct (names_in (walk A I a))) (some s) none)
  unfolding open_dir
  open_steps a seen =
      seen_then (blocks_of A I a seen) _
      ∙ then_same (blocks_of A I a seen) _ _ (λ c q.
      seen_pass (distinct (all_names c.found)) c
      ∙ ap (λ (t : Bool). pick t (some c.seen) none) (sym (open_is A I a seen c q)))
      ∙ sym (then_seen (blocks_of A I a seen) (λ s. pick (ends (walk A I a) && distinct (names_in (walk A I a))) (some s) none))
