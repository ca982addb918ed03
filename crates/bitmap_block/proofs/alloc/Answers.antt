use Rattle.bitmap_block.proofs.Answers.{found_in}
use Rattle.bitmap_block.proofs.alloc.Goals as goal

pub take-requires-clause-x_bound : goal.take-requires-clause-x_bound
take-requires-clause-x_bound c = search found_in
