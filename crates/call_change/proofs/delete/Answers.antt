use mathlib.Core.Path.{◌∙◌}
use Rattle.limits.proofs.Passed.{err_is}
use Rattle.call_change.proofs.Changes.{delete_no, image_kept, delete_at, delete_image}
use Rattle.call_change.proofs.delete.Goals as goal

pub returns-in_err-s : goal.returns-in_err-s
returns-in_err-s c =
    let e = c.in_err-s.ensures in
    rw (err_is c.from_residual.result c.from_residual.ensures.1)
    (record { answer = delete_no _ _ _ _ _ _ e.begin_is; image = image_kept _ _ _ _ _ _ e.begin_is _; work = e.work_after })

pub returns : goal.returns
returns c =
    let e = c.in_ok-s.ensures in
    let d = c.delete.ensures in
    record {
      answer = d.result_value ∙ delete_at _ _ _ _ _ _ _ _ e.begin_is;
      image = d.img_after ∙ delete_image _ _ _ _ _ _ _ _ e.begin_is _;
      work = e.work_after;
    }
