use Rattle.block.proofs.Blocks.{zeroed_is}
use Rattle.block.proofs.clear.Goals as goal

pub returns : goal.returns
returns c = search zeroed_is
