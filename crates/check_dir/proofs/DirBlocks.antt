-- A directory's blocks and names: what the code knows where it answers.
use mathlib.Core.Path.{◌≡◌, refl, sym, ap, ◌∙◌, subst}
use mathlib.Core.Bool.{Bool, true, false, ◌&&◌}
use mathlib.Core.Option.{none, some}
use mathlib.Core.List.{List, []}
use Prim.Native.Nat.{ℕ, suc, ◌+◌, ◌-◌, ◌≤◌, ◌<◌}
use lib.Dec.{eqb}
use borrow.Author.Tests.{eqb-true}
use Rattle.wire.specs.Pick.{pick}
use Rattle.wire.proofs.Picks.{pick_true, pick_false}
use Rattle.block.specs.Block.{Area, next}
use Rattle.model.specs.Tree.{then}
use Rattle.model.proofs.Lists.{then_some, then-none}
use Rattle.read_dir.specs.Walk.{walk}
use Rattle.check_names.specs.Names.{distinct, names_in, ends}
use Rattle.thm_survey.specs.Survey.{claim, raws_from, later_of, blocks_of, seen_of}
use Rattle.check_chain.specs.Marks.{MarksAnswer}
use Rattle.check_dir.specs.Blocks.{may_stand, block_check}
use Rattle.thm_survey.specs.Steps.{open_dir}
use Rattle.check_chain.proofs.Remaining.{Check, Goes, goes_end, goes_stop, goes_last, step_no, step_yes}
use Rattle.check_chain.proofs.Chains.{Along, Left, left_step, left_stop, left_answer}
use Rattle.check_dir.proofs.WalkedBlocks.{block_steps, later_steps, later_end, later_over}
use Rattle.thm_survey.proofs.Opened.{open_steps}

-- a test at the end answers the check
test_end : (A : Area) (f : Check) (t b : Bool) (W Z : List ℕ) → Goes A f (λ s. pick t (some s) none) W Z → b ≡ t → MarksAnswer A f W Z b
test_end A f t true W Z l e = goes_end A f _ W Z l (λ s. pick_true _ _ (sym e))
test_end A f t false W Z l e = goes_stop A f _ W Z l (λ s. pick_false _ _ (sym e))

-- ---- one block

module _ (A : Area) (I : List ℕ) (late : Bool) (a : ℕ) (W Z : List ℕ) (r : Bool) (q : MarksAnswer A (claim A [] a) W Z r) where
  abbrev good : Bool
  good = may_stand late (raws_from A.size I A.size a 0)

  as_steps : (seen : List ℕ) → block_check A I late a seen ≡ then (claim A [] a seen) (λ s. pick good (some s) none)
  unfolding block_check claim
  as_steps seen = refl

  pub block_no : r ≡ false → MarksAnswer A (block_check A I late a) W Z r
  block_no e = step_no A (claim A [] a) (λ s. pick good (some s) none) (block_check A I late a) W Z r q as_steps e

  pub block_yes : r ≡ true → (t : Bool) → t ≡ good → MarksAnswer A (block_check A I late a) W Z t
  block_yes e t h =
      test_end A (block_check A I late a) good t W Z
      (step_yes A (claim A [] a) (λ s. pick good (some s) none) (block_check A I late a) W Z r q as_steps e) h

-- ---- the later blocks

module _ (A : Area) (I : List ℕ) where
  abbrev pub later_check : Along
  later_check k a seen = seen_of (later_of A I k a seen)

  later_stop : (b j : ℕ) → (b ≡ 0 → ⊥) → (seen : List ℕ) → block_check A I true b seen ≡ none → later_check (suc j) b seen ≡ none
  later_stop b j z seen e = later_steps A I j b seen z ∙ then-none _ e

  later_next : (b c j : ℕ) → (b ≡ 0 → ⊥) → c ≡ next A.size I b → (seen s : List ℕ) → block_check A I true b seen ≡ some s → later_check (suc j) b seen ≡ later_check j c s
  later_next b c j z h seen s e = later_steps A I j b seen z ∙ then_some _ e ∙ ap (λ (x : ℕ). later_check j x s) (sym h)

  module _ (W₀ : List ℕ) (k a : ℕ) (W : List ℕ) (b i : ℕ) (l : Left A later_check W₀ k a W b i) where
    pub later_done : b ≡ 0 → MarksAnswer A (later_check k a) W₀ W true
    later_done z = goes_end A (later_check k a) (later_check (k - i) b) W₀ W l.goes (λ s. later_end A I (k - i) b s z)

    pub later_answer : k ≤ i → (t : Bool) → t ≡ eqb b 0 → MarksAnswer A (later_check k a) W₀ W t
    later_answer h t e =
        left_answer A later_check W₀ k a W b i l t h
        (λ y s. later_end A I 0 b s (eqb-true b 0 (sym e ∙ y))) (λ y s. later_over A I b s (sym e ∙ y))

    module _ (Z : List ℕ) (r : Bool) (more : i < k) (q : MarksAnswer A (block_check A I true b) W Z r) (z : b ≡ 0 → ⊥) where
      pub later_no : r ≡ false → MarksAnswer A (later_check k a) W₀ Z false
      later_no e = left_stop A later_check W₀ k a W b i l (block_check A I true b) Z r more q e (λ j seen. later_stop b j z seen)

      pub later_yes : (c : ℕ) → r ≡ true → c ≡ next A.size I b → Left A later_check W₀ k a Z c (i + 1)
      later_yes c e h = left_step A later_check W₀ k a W b i l (block_check A I true b) Z r more q c e (λ j seen s. later_next b c j z h seen s)

-- ---- all blocks of a directory, and its names

module _ (A : Area) (I : List ℕ) (a : ℕ) (W Z : List ℕ) (r : Bool) where
  abbrev pub blocks_check : Check
  blocks_check seen = seen_of (blocks_of A I a seen)

  module _ (q : MarksAnswer A (block_check A I false a) W Z r) where
    pub blocks_no : r ≡ false → MarksAnswer A blocks_check W Z r
    blocks_no e = step_no A (block_check A I false a) (λ s. seen_of (later_of A I (A.end - A.first - 1) (next A.size I a) s)) blocks_check W Z r q (block_steps A I a) e

    pub blocks_yes : r ≡ true → (c k : ℕ) (Y : List ℕ) (t : Bool) → c ≡ next A.size I a → k ≡ A.end - A.first - 1 → MarksAnswer A (λ s. seen_of (later_of A I k c s)) Z Y t → MarksAnswer A blocks_check W Y t
    blocks_yes e c k Y t h j p =
        goes_last A blocks_check (λ s. seen_of (later_of A I (A.end - A.first - 1) (next A.size I a) s)) W Z Y t
        (step_yes A (block_check A I false a) (λ s. seen_of (later_of A I (A.end - A.first - 1) (next A.size I a) s)) blocks_check W Z r q (block_steps A I a) e)
        (subst (λ (x : ℕ). MarksAnswer A (λ s. seen_of (later_of A I (A.end - A.first - 1) x s)) Z Y t) h (subst (λ (x : ℕ). MarksAnswer A (λ s. seen_of (later_of A I x c s)) Z Y t) j p))

  abbrev pub open_check : Check
  open_check seen = seen_of (open_dir A I a seen)

  abbrev named : Bool
  named = ends (walk A I a) && distinct (names_in (walk A I a))

  module _ (q : MarksAnswer A blocks_check W Z r) where
    pub open_no : r ≡ false → MarksAnswer A open_check W Z r
    open_no e = step_no A blocks_check (λ s. pick named (some s) none) open_check W Z r q (open_steps A I a) e

    pub open_yes : r ≡ true → (t : Bool) → t ≡ named → MarksAnswer A open_check W Z t
    open_yes e t h = test_end A open_check named t W Z (step_yes A blocks_check (λ s. pick named (some s) none) open_check W Z r q (open_steps A I a) e) h
