use Rattle.mfs_c.proofs.Told.{writes_c}
use Rattle.mfs_c.proofs.mfs_c_write.Goals as goal

pub returns : goal.returns
returns c = search writes_c
