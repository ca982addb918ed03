use Rattle.limits.proofs.Passed.{err_is}
use Rattle.call_volume.proofs.Answers.{made_at, format_refused, format_made}
use Rattle.call_volume.proofs.format.Goals as goal

pub returns-in_err-s : goal.returns-in_err-s
returns-in_err-s c = rw (err_is c.from_residual.result c.from_residual.ensures.1) (format_refused _ _ _ c.in_err-s.ensures)

pub lay-requires : goal.lay-requires
lay-requires c = made_at _ _ _ c.in_ok-s.ensures

pub returns : goal.returns
returns c = format_made _ _ _ c.in_ok-s.ensures _ c.lay.ensures
