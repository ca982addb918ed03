use Rattle.limits.proofs.Passed.{err_is}
use Rattle.call_room.proofs.Answers.{room_opened, room_refused, room-known}
use Rattle.call_room.proofs.room.Goals as goal

pub returns-in_err-s : goal.returns-in_err-s
returns-in_err-s c = rw (err_is c.from_residual.result c.from_residual.ensures.1) (room_refused _ _ _ c.in_err-s.ensures _)

pub invariant_of-room_in : goal.invariant_of-room_in
invariant_of-room_in c = record { fit = room_opened _ _ _ c.in_ok-s.ensures }

pub returns : goal.returns
returns c = room-known _ _ _ c.in_ok-s.ensures _ _ c.room_in.ensures
