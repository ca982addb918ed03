use Rattle.write.proofs.Aims.{reach_told}
use Rattle.write.proofs.unreached.Goals as goal

pub returns : goal.returns
returns c = search reach_told
