use Rattle.block.proofs.Blocks.{next_is}
use Rattle.block.proofs.VolumeBlock.next_addr.Goals as goal

pub returns : goal.returns
returns c = search next_is
