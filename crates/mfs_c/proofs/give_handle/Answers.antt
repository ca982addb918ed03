use Rattle.mfs_c.proofs.Told.{handle_refused, handle_given}
use Rattle.mfs_c.proofs.give_handle.Goals as goal

pub returns-in-Err : goal.returns-in-Err
returns-in-Err c = search handle_refused

pub returns-in-Ok : goal.returns-in-Ok
returns-in-Ok c = search handle_given
