use Rattle.limits.proofs.Passed.{err_is}
use Rattle.call_volume.proofs.Checked.{call_refused}
use Rattle.call_volume.proofs.open_checked.Goals as goal

pub returns-in_err-s : goal.returns-in_err-s
returns-in_err-s c = rw (err_is c.from_residual.result c.from_residual.ensures.1) (call_refused _ _ _ _ c.in_err-s.ensures)
