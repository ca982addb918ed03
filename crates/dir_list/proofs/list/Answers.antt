use Rattle.read_dir.proofs.Along.{numbers_fit}
use Rattle.dir_list.proofs.list.Goals as goal

pub measure-requires : goal.measure-requires
measure-requires c = search numbers_fit
