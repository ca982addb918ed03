use Rattle.mfs_c.proofs.Told.{count_refused, count_given}
use Rattle.mfs_c.proofs.give_count.Goals as goal

pub returns-in-Err : goal.returns-in-Err
returns-in-Err c = search count_refused

pub returns-in-Ok : goal.returns-in-Ok
returns-in-Ok c = search count_given
