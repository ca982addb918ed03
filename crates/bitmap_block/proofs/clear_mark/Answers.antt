use Rattle.bitmap_block.proofs.Answers.{bit_place}
use Rattle.bitmap_block.specs.Bitmap.{marked}
use borrow.Author.Rules.{rules}
use Rattle.bitmap_block.proofs.clear_mark.Goals as goal

pub clear_bit-requires : goal.clear_bit-requires
clear_bit-requires c = search (bit_place, rules)

pub returns : goal.returns
unfolding marked
returns c = cc
