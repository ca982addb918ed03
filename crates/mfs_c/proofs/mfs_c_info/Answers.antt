use Rattle.mfs_c.proofs.Told.{info_refused, info_told}
use Rattle.mfs_c.proofs.mfs_c_info.Goals as goal

pub returns-in-Err : goal.returns-in-Err
returns-in-Err c = search info_refused

pub returns-in-Ok : goal.returns-in-Ok
returns-in-Ok c = search info_told
