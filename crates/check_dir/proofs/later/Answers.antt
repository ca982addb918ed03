use borrow.Author.Rules.{rules}
use mathlib.Core.Path.{refl}
use Rattle.check_chain.proofs.Chains.{left_start}
use Rattle.check_dir.proofs.DirBlocks.{later_no, later_yes, later_done, later_answer}
use Rattle.check_dir.proofs.later.Goals as goal

pub loop-init : goal.loop-init
loop-init c = (refl, left_start _ _ _ _ _)

pub returns-then-b-eq0 : goal.returns-then-b-eq0
returns-then-b-eq0 c = later_done _ _ _ _ _ _ _ _ c.loop.invariant.1 c.if-b-eq0.true

pub returns-then-not-block : goal.returns-then-not-block
returns-then-not-block c =
    later_no _ _ _ _ _ _ _ _ c.loop.invariant.1 _ _ c.loop-test.true c.block.ensures.marks_answer c.if-b-eq0.false c.if-not-block.true

pub loop-preserved : goal.loop-preserved
loop-preserved c =
    (search rules, later_yes _ _ _ _ _ _ _ _ c.loop.invariant.1 _ _ c.loop-test.true c.block.ensures.marks_answer c.if-b-eq0.false _ c.if-not-block.false c.next_addr-b.ensures)

pub returns : goal.returns
returns c = later_answer _ _ _ _ _ _ _ _ c.loop.invariant.1 c.loop-test.false _ refl
