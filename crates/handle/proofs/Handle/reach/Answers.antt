use Rattle.handle.proofs.Seeks.{target-start, target-current, target_end}
use Rattle.handle.proofs.Handle.reach.Goals as goal

pub returns-in-Start : goal.returns-in-Start
returns-in-Start c = search target-start

pub returns-in-Current : goal.returns-in-Current
returns-in-Current c = search target-current

pub returns-in-End : goal.returns-in-End
returns-in-End c = search target_end
