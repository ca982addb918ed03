use Rattle.bitmap_block.proofs.Answers.{fewer_is}
use Rattle.bitmap_block.proofs.dec_alloc_count.Goals as goal

pub returns : goal.returns
returns c = search fewer_is
