use mathlib.Core.Path.{◌∙◌}
use Rattle.limits.proofs.Passed.{err_is}
use Rattle.call_read.proofs.Starts.{open_no, open_call}
use Rattle.call_read.proofs.open_at.Goals as goal

pub returns-in_err-s : goal.returns-in_err-s
returns-in_err-s c = rw (err_is c.from_residual.result c.from_residual.ensures.1) (open_no _ _ _ _ _ c.in_err-s.ensures)

pub returns : goal.returns
returns c = c.open_full.ensures ∙ open_call _ _ _ _ _ _ _ c.in_ok-s.ensures
