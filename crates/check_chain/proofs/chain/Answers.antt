use borrow.Author.Rules.{rules}
use Rattle.check_chain.proofs.Chains.{left_start, left_step, left_stop, left_over, left_last, device_over, device_stop, device_last, device_next}
use Rattle.super_block.proofs.Fits.{area_inside}
use Rattle.check_chain.proofs.chain.Goals as goal

pub overflow_sub-end : goal.overflow_sub-end
overflow_sub-end c = search (area_inside, rules)

pub loop-init : goal.loop-init
loop-init c = (search rules, left_start _ _ _ _ _)

pub returns-then-not-claim : goal.returns-then-not-claim
returns-then-not-claim c =
    left_stop _ _ _ _ _ _ _ _ c.loop.invariant.1 _ _ _ c.loop-test.true c.claim.ensures.marks_answer c.if-not-claim.true (device_stop _ _ _)

pub returns-then-b-eq0 : goal.returns-then-b-eq0
returns-then-b-eq0 c =
    left_last _ _ _ _ _ _ _ _ c.loop.invariant.1 _ _ _ c.loop-test.true c.claim.ensures.marks_answer c.if-not-claim.false (device_last _ _ _ _ c.next_addr-b.ensures c.if-b-eq0.true)

pub loop-preserved : goal.loop-preserved
loop-preserved c =
    (search rules, left_step _ _ _ _ _ _ _ _ c.loop.invariant.1 _ _ _ c.loop-test.true c.claim.ensures.marks_answer _ c.if-not-claim.false (device_next _ _ _ _ c.next_addr-b.ensures c.if-b-eq0.false))

pub returns : goal.returns
returns c = left_over _ _ _ _ _ _ _ _ c.loop.invariant.1 c.loop-test.false (device_over _ _ _)
