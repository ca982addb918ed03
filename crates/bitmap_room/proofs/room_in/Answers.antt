use Rattle.bitmap_block.proofs.Answers.{reach_place, reach_few}
use Rattle.bitmap_room.proofs.Clear.{room_of}
use borrow.Author.Rules.{rules}
use Rattle.bitmap_room.proofs.room_in.Goals as goal

pub search-requires : goal.search-requires
search-requires c = search (reach_place, reach_few, rules)

pub returns : goal.returns
returns c = search (room_of, rules)
