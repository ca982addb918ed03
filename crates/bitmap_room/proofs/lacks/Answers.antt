use Rattle.bitmap_room.proofs.Clear.{lacks_of}
use borrow.Author.Rules.{rules}
use Rattle.bitmap_room.proofs.lacks.Goals as goal

pub returns : goal.returns
returns c = search (lacks_of, rules)
