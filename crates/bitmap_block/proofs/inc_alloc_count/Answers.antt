use Rattle.bitmap_block.proofs.Answers.{more_is}
use Rattle.bitmap_block.proofs.inc_alloc_count.Goals as goal

pub returns : goal.returns
returns c = search more_is
