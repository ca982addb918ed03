use Rattle.mfs_c.proofs.Told.{reads_c}
use Rattle.mfs_c.proofs.mfs_c_read.Goals as goal

pub returns : goal.returns
returns c = search reads_c
