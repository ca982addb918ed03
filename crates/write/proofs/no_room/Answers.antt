use Rattle.write.proofs.Aims.{room_kept, room_asked}
use Rattle.write.proofs.no_room.Goals as goal

pub returns-then-new-old : goal.returns-then-new-old
returns-then-new-old c = search room_kept

pub returns : goal.returns
returns c = search room_asked
