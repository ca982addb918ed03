use Rattle.mfs_c.proofs.Told.{patches_c}
use Rattle.mfs_c.proofs.mfs_c_patch.Goals as goal

pub returns : goal.returns
returns c = search patches_c
