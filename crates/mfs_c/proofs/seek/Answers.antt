use Rattle.mfs_c.proofs.Told.{seek_refused, seek_moved}
use Rattle.mfs_c.proofs.seek.Goals as goal

pub returns-in-Err : goal.returns-in-Err
returns-in-Err c = search seek_refused

pub returns-in-Ok : goal.returns-in-Ok
returns-in-Ok c = search seek_moved
