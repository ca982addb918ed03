use Rattle.limits.proofs.Passed.{err_is}
use Rattle.call_read.proofs.Starts.{list_no, list_call, records_call}
use Rattle.call_read.proofs.Opening.{list_refused, list_as}
use Rattle.call_read.proofs.list.Goals as goal

pub returns-in_err-s : goal.returns-in_err-s
returns-in_err-s c = rw (err_is c.from_residual.result c.from_residual.ensures.1) (list_refused _ _ _ _ (list_no _ _ _ _ _ c.in_err-s.ensures _ _))

pub returns : goal.returns
returns c = list_as c.list_full.ensures (list_call _ _ _ _ _ _ _ c.in_ok-s.ensures _ _) (records_call _ _ _ _ _ _ _ c.in_ok-s.ensures _ _)
