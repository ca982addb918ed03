use native.Mathlib.Omega.{arith}
use Rattle.bitmap_block.proofs.Answers.{clear_used, given_back}
use Rattle.bitmap_block.proofs.free.Goals as goal

pub dec_alloc_count-requires-clause-img_nonzero : goal.dec_alloc_count-requires-clause-img_nonzero
dec_alloc_count-requires-clause-img_nonzero c = search (clear_used, arith)

pub returns : goal.returns
returns c = search given_back
