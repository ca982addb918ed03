use Rattle.limits.proofs.Passed.{err_is}
use Rattle.call_volume.proofs.Answers.{opened_at, usage_refused, usage_sized}
use Rattle.call_volume.proofs.usage.Goals as goal

pub returns-in_err-s : goal.returns-in_err-s
returns-in_err-s c = rw (err_is c.from_residual.result c.from_residual.ensures.1) (usage_refused _ _ _ c.in_err-s.ensures)

pub alloc_count-requires : goal.alloc_count-requires
alloc_count-requires c = opened_at _ _ _ c.in_ok-s.ensures

pub returns : goal.returns
returns c = usage_sized _ _ _ c.in_ok-s.ensures _ _ c.alloc_count.ensures c.sizes_of.ensures
