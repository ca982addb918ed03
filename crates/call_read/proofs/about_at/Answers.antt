use mathlib.Core.Path.{◌∙◌}
use Rattle.limits.proofs.Passed.{err_is}
use Rattle.call_read.proofs.Starts.{info_no, info_call}
use Rattle.call_read.proofs.Opening.{info_is_root, info_is_other}
use Rattle.call_read.proofs.about_at.Goals as goal

pub returns-in_err-s : goal.returns-in_err-s
returns-in_err-s c = rw (err_is c.from_residual.result c.from_residual.ensures.1) (info_no _ _ _ _ _ c.in_err-s.ensures)

pub returns-then-is_root : goal.returns-then-is_root
returns-then-is_root c = c.about_root.ensures ∙ info_is_root _ _ _ _ _ c.is_root.ensures c.if-is_root.true ∙ info_call _ _ _ _ _ _ _ c.in_ok-s.ensures

pub returns : goal.returns
returns c = c.about_full.ensures ∙ info_is_other _ _ _ _ _ c.is_root.ensures c.if-is_root.false ∙ info_call _ _ _ _ _ _ _ c.in_ok-s.ensures
