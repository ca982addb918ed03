use Rattle.mfs_c.proofs.Told.{room_refused, room_told}
use Rattle.mfs_c.proofs.mfs_c_room.Goals as goal

pub returns-in-Err : goal.returns-in-Err
returns-in-Err c = search room_refused

pub returns-in-Ok : goal.returns-in-Ok
returns-in-Ok c = search room_told
