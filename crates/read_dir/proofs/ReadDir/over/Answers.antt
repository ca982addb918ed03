use Rattle.read_dir.proofs.Moves.{over_zero, over_entry}
use Rattle.read_dir.proofs.ReadDir.over.Goals as goal

pub returns-then-a-eq0 : goal.returns-then-a-eq0
returns-then-a-eq0 c = search over_zero

pub returns : goal.returns
returns c = search over_entry
