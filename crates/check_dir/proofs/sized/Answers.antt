use Rattle.check_dir.proofs.Holds.{total_is, total_none}
use Rattle.check_dir.proofs.sized.Goals as goal

pub returns-in-Ok : goal.returns-in-Ok
returns-in-Ok c = search (total_is, c.in-Ok.ensures)

pub returns-in-Err : goal.returns-in-Err
returns-in-Err c = search (total_none, c.in-Err.ensures)
