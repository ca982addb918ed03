use Rattle.mfs_c.proofs.Told.{usage_refused, usage_told}
use Rattle.mfs_c.proofs.mfs_c_usage.Goals as goal

pub returns-in-Err : goal.returns-in-Err
returns-in-Err c = search usage_refused

pub returns-in-Ok : goal.returns-in-Ok
returns-in-Ok c = search usage_told
