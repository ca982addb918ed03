-- The check of a directory's blocks in the steps of its code: what is claimed, block after block.
use mathlib.Core.Path.{◌≡◌, refl, sym, ap, ◌∙◌}
use mathlib.Core.Bool.{true, false}
use mathlib.Core.Option.{Option, none, some}
use mathlib.Core.List.{List, [], ◌∷◌}
use Prim.Native.Nat.{ℕ, zero, suc, ◌-◌}
use lib.Dec.{eqb}
use borrow.Author.Tests.{eq-eqb, ne_eqb}
use Rattle.wire.specs.Pick.{pick}
use Rattle.wire.proofs.Picks.{pick_true, pick_false}
use Rattle.block.specs.Block.{Area, next}
use Rattle.model.specs.Tree.{then}
use Rattle.thm_survey.specs.Survey.{Raw, RawBlock, has_some, Claimed, claim, raws_from, later_of, blocks_of, seen_of}
use Rattle.check_dir.specs.Blocks.{may_stand, block_check}
use Rattle.thm_survey.proofs.Seen.{then-then, then_same, seen_then, seen_test, seen_with}

-- a first block may stand there unless it is damaged; a later one must have an entry too
first_stands : {Y : Type 0} (o : Option (List Raw)) (s : List ℕ) (f : List ℕ → Option Y)
    → then (pick (may_stand false o) (some s) none) f ≡ then o (λ rs. f s)
unfolding then pick may_stand has_some
first_stands none s f = refl
first_stands (some []) s f = refl
first_stands (some (r ∷ rs)) s f = refl

later_stands : {Y : Type 0} (o : Option (List Raw)) (s : List ℕ) (f : List ℕ → Option Y)
    → then (pick (may_stand true o) (some s) none) f ≡ then o (λ rs. pick (has_some rs) (f s) none)
unfolding then pick may_stand has_some
later_stands none s f = refl
later_stands (some []) s f = refl
later_stands (some (r ∷ rs)) s f = refl

module _ (A : Area) (I : List ℕ) where
  -- the first block, then the later ones
  pub block_steps : (a : ℕ) (seen : List ℕ)
      → seen_of (blocks_of A I a seen) ≡ then (block_check A I false a seen) (λ s. seen_of (later_of A I (A.end - A.first - 1) (next A.size I a) s))
  unfolding blocks_of block_check
  block_steps a seen =
      seen_then (claim A I a seen) _
      ∙ then_same (claim A I a seen) _ _ (λ s _.
      seen_then (raws_from A.size I A.size a 0) _
      ∙ then_same (raws_from A.size I A.size a 0) _ _ (λ rs _. seen_with (λ bs. record { at = a; raws = rs } ∷ bs) (later_of A I (A.end - A.first - 1) (next A.size I a) s))
      ∙ sym (first_stands (raws_from A.size I A.size a 0) s (λ s. seen_of (later_of A I (A.end - A.first - 1) (next A.size I a) s))))
      ∙ sym (then-then (claim A I a seen) _ _)

  -- a later block, then those after it; the end; more blocks than may be
  pub later_steps : (k a : ℕ) (seen : List ℕ) → (a ≡ 0 → ⊥)
      → seen_of (later_of A I (suc k) a seen) ≡ then (block_check A I true a seen) (λ s. seen_of (later_of A I k (next A.size I a) s))
  unfolding later_of block_check
  later_steps k a seen z =
      ap seen_of (pick_false _ _ (ne_eqb a 0 z))
      ∙ seen_then (claim A I a seen) _
      ∙ then_same (claim A I a seen) _ _ (λ s _.
      seen_then (raws_from A.size I A.size a 0) _
      ∙ then_same (raws_from A.size I A.size a 0) _ _ (λ rs _.
      seen_test (has_some rs) _
      ∙ ap (λ (o : Option (List ℕ)). pick (has_some rs) o none) (seen_with (λ bs. record { at = a; raws = rs } ∷ bs) (later_of A I k (next A.size I a) s)))
      ∙ sym (later_stands (raws_from A.size I A.size a 0) s (λ s. seen_of (later_of A I k (next A.size I a) s))))
      ∙ sym (then-then (claim A I a seen) _ _)

  pub later_end : (k a : ℕ) (seen : List ℕ) → a ≡ 0 → seen_of (later_of A I k a seen) ≡ some seen
  unfolding later_of seen_of then
  later_end zero a seen z = ap (λ (o : Option (Claimed (List RawBlock))). then o (λ c. some c.seen)) (pick_true _ _ (eq-eqb a 0 z))
  later_end (suc k) a seen z = ap (λ (o : Option (Claimed (List RawBlock))). then o (λ c. some c.seen)) (pick_true _ _ (eq-eqb a 0 z))

  pub later_over : (a : ℕ) (seen : List ℕ) → eqb a 0 ≡ false → seen_of (later_of A I 0 a seen) ≡ none
  unfolding later_of seen_of then
  later_over a seen z = ap (λ (o : Option (Claimed (List RawBlock))). then o (λ c. some c.seen)) (pick_false _ _ z)
