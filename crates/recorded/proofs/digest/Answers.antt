use native.Mathlib.Omega.{arith}
use Rattle.recorded.proofs.Laws.{digest_none, digest_more}
use Rattle.recorded.proofs.digest.Goals as goal

pub loop-b-init : goal.loop-b-init
loop-b-init c = omega (arith, digest_none c.args.s.now)

pub loop-b-preserved : goal.loop-b-preserved
loop-b-preserved c = omega (arith, digest_more c.loop-b.b-index c.args.s.now)
