use Rattle.limits.proofs.Passed.{err_is}
use Rattle.call_read.proofs.Starts.{start_no, start_refused, started}
use Rattle.call_read.proofs.start.Goals as goal

pub returns-in_err-s : goal.returns-in_err-s
returns-in_err-s c = rw (err_is c.from_residual.result c.from_residual.ensures.1) (start_no _ _ _ _ _ c.in_err-s.ensures)

pub returns-in_err-n : goal.returns-in_err-n
returns-in_err-n c = rw (err_is c.from_residual-in_err-n.result c.from_residual-in_err-n.ensures.1) (start_refused _ _ _ _ _ c.in_ok-s.ensures c.args.full.now c.realpath.new.full _ (search c.in_err-n.ensures))

pub returns : goal.returns
returns c = started _ _ _ _ _ c.in_ok-s.ensures _ _ _ c.in_ok-n.ensures c.told-full
