use Rattle.write_store.proofs.Loops.{cut_is}
use Rattle.write_store.proofs.cut.Goals as goal

pub returns : goal.returns
returns c = search cut_is
