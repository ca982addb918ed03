use Rattle.wire.proofs.Numbers.{be_halves}
use Rattle.wire.proofs.get.Goals as goal

pub returns-then-n-eq8 : goal.returns-then-n-eq8
returns-then-n-eq8 c = be_halves _ _ _ _ _ c.if-n-eq8.true c.digits.ensures c.digits-then-n-eq8.ensures
