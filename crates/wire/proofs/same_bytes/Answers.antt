use Rattle.wire.proofs.Picks.{compared}
use Rattle.wire.proofs.same_bytes.Goals as goal

pub returns : goal.returns
returns c = search compared
