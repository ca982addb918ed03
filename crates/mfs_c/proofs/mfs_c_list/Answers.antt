use Rattle.mfs_c.proofs.Told.{list_refused, list_told}
use Rattle.mfs_c.proofs.mfs_c_list.Goals as goal

pub returns-in-Err : goal.returns-in-Err
returns-in-Err c = search list_refused

pub returns-in-Ok : goal.returns-in-Ok
returns-in-Ok c = search list_told
