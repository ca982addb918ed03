use borrow.Author.Rules.{rules}
use Rattle.check_chain.proofs.Chains.{left_start, left_step, left_stop, left_answer, file_done, file_over, file_stop, file_next}
use Rattle.check_chain.proofs.cells.Goals as goal

pub loop-init : goal.loop-init
loop-init c = (search rules, left_start _ _ _ _ _)

pub returns-then-not-claim : goal.returns-then-not-claim
returns-then-not-claim c =
    left_stop _ _ _ _ _ _ _ _ c.loop.invariant.1 _ _ _ c.loop-test.true c.claim.ensures.marks_answer c.if-not-claim.true (file_stop _ _ _)

pub loop-preserved : goal.loop-preserved
loop-preserved c =
    (search rules, left_step _ _ _ _ _ _ _ _ c.loop.invariant.1 _ _ _ c.loop-test.true c.claim.ensures.marks_answer _ c.if-not-claim.false (file_next _ _ _ _ c.next_addr-b.ensures))

pub returns : goal.returns
returns c = left_answer _ _ _ _ _ _ _ _ c.loop.invariant.1 _ c.loop-test.false (file_done _ _ _) (file_over _ _ _)
