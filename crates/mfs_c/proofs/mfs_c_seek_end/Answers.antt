use Rattle.handle.specs.declared.SeekFrom.TheVariants as from
use Rattle.mfs_c.proofs.Told.{seek_by}
use Rattle.mfs_c.proofs.mfs_c_seek_end.Goals as goal

pub returns : goal.returns
returns c = seek_by from.End c.args.by _ _ _ _ _ c.ranges.by c.seek.ensures
