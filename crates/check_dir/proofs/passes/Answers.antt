use Rattle.check_dir.proofs.Holds.{passes_zero, passes_name}
use Rattle.check_dir.proofs.passes.Goals as goal

pub returns-then-to-ne0 : goal.returns-then-to-ne0
returns-then-to-ne0 c = search passes_name

pub returns-else-to-ne0 : goal.returns-else-to-ne0
returns-else-to-ne0 c = search passes_zero
