use Rattle.read_dir.proofs.Names.{name_longer, name_compared}
use Rattle.read_dir.proofs.Placed.named.Goals as goal

pub returns-then-x-name : goal.returns-then-x-name
returns-then-x-name c = search name_longer

pub returns : goal.returns
returns c = search name_compared
