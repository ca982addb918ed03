use mathlib.Core.Path.{refl}
use Rattle.mfs_c.proofs.numbers_of.Goals as goal

pub returns : goal.returns
returns c = refl
