use Rattle.bitmap_room.proofs.Clear.{ones_few, clear_part, clear_byte}
use borrow.Author.Rules.{rules}
use Rattle.bitmap_room.proofs.clear_in_byte.Goals as goal

pub overflow_sub-result : goal.overflow_sub-result
overflow_sub-result c = search (ones_few, rules)

pub returns-then-rest-lt8 : goal.returns-then-rest-lt8
returns-then-rest-lt8 c = search (clear_part, rules)

pub returns : goal.returns
returns c = search (clear_byte, rules)
