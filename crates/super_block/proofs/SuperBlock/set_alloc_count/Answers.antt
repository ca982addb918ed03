use Rattle.super_block.specs.Super.{counted}
use Rattle.super_block.proofs.SuperBlock.set_alloc_count.Goals as goal

pub returns : goal.returns
unfolding counted
returns c = cc
