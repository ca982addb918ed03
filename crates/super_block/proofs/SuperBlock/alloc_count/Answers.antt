use Rattle.model.specs.Geometry.{used_count}
use Rattle.super_block.proofs.SuperBlock.alloc_count.Goals as goal

pub returns : goal.returns
unfolding used_count
returns c = cc
