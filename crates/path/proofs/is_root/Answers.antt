use Rattle.path.proofs.Bytes.{root_is}
use Rattle.path.proofs.is_root.Goals as goal

pub returns : goal.returns
returns c = search root_is
