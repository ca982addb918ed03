use Rattle.call_read.proofs.Opening.{info_told, info_refused}
use Rattle.call_read.proofs.info.Goals as goal

pub returns-in-Ok : goal.returns-in-Ok
returns-in-Ok c = info_told _ c.in-Ok.ensures

pub returns-in-Err : goal.returns-in-Err
returns-in-Err c = info_refused _ c.in-Err.ensures
