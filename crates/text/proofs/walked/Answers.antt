use Rattle.text.proofs.Along.{walk_start, walk_again, walk_ends, walk_done}
use Rattle.text.proofs.walked.Goals as goal

pub loop-c-init : goal.loop-c-init
loop-c-init c = walk_start c.args.s.now

pub returns-in-None : goal.returns-in-None
returns-in-None c = walk_ends c.args.s.now c.loop-c.c-index c.loop-c.d c.loop-c.invariant c.in-None.ensures c.loop-c-test.true

pub loop-c-preserved : goal.loop-c-preserved
loop-c-preserved c = walk_again c.args.s.now c.loop-c.c-index c.loop-c.d c.loop-c.invariant c.in-Some.after c.in-Some.ensures c.loop-c-test.true

pub returns : goal.returns
returns c = walk_done c.args.s.now c.loop-c.c-index c.loop-c.d c.loop-c.invariant c.loop-c-test.false
