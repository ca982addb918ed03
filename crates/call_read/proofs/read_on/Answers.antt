use Rattle.limits.proofs.Passed.{err_is}
use Rattle.call_read.proofs.Handles.{read_no, opened_at, read_at_lem}
use Rattle.call_read.proofs.read_on.Goals as goal

pub returns-in_err-s : goal.returns-in_err-s
returns-in_err-s c = rw (err_is c.from_residual.result c.from_residual.ensures.1) (read_no _ _ _ c.in_err-s.ensures _ _)

pub invariant_of-read : goal.invariant_of-read
invariant_of-read c = record { fit = opened_at _ _ _ c.in_ok-s.ensures }

pub returns : goal.returns
returns c = read_at_lem _ _ _ c.in_ok-s.ensures _ _ _ _ c.read-2.ensures
