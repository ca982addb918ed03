use Rattle.bitmap_room.proofs.Clear.{eight_bytes, eight_full}
use borrow.Author.Rules.{rules}
use Rattle.bitmap_room.proofs.next_piece.Goals as goal

pub returns-then-left-gt64 : goal.returns-then-left-gt64
returns-then-left-gt64 c = search (eight_bytes, rules)

pub returns-then-full_eight : goal.returns-then-full_eight
returns-then-full_eight c = search (eight_full, rules)
