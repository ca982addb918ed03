use Rattle.bitmap_block.proofs.Answers.{set_used}
use Rattle.bitmap_block.specs.Bitmap.{taken}
use Rattle.bitmap_block.proofs.take.Goals as goal

pub inc_alloc_count-requires-clause-img_bound : goal.inc_alloc_count-requires-clause-img_bound
inc_alloc_count-requires-clause-img_bound c = search set_used

pub returns : goal.returns
unfolding taken
returns c = cc
