use Rattle.block.proofs.Blocks.{linked_is}
use Rattle.block.proofs.VolumeBlock.set_next_addr.Goals as goal

pub returns : goal.returns
returns c = search linked_is
