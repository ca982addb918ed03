use Rattle.bitmap_block.proofs.Answers.{bit_place}
use Rattle.bitmap_block.specs.Bitmap.{marked}
use borrow.Author.Rules.{rules}
use Rattle.bitmap_block.proofs.set_mark.Goals as goal

pub set_bit-requires : goal.set_bit-requires
set_bit-requires c = search (bit_place, rules)

pub returns : goal.returns
unfolding marked
returns c = cc
