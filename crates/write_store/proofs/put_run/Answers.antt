use Rattle.write_store.proofs.Loops.{run_stored, run_dropped}
use Rattle.write_store.proofs.put_run.Goals as goal

pub returns : goal.returns
returns c = (search run_stored, search run_dropped)
