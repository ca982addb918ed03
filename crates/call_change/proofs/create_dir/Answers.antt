use Rattle.limits.proofs.Passed.{err_is}
use Rattle.call_change.proofs.Changes.{plain_lost, plain_made}
use Rattle.call_change.proofs.create_dir.Goals as goal

pub returns-in_err-create_at : goal.returns-in_err-create_at
returns-in_err-create_at c =
    let e = c.in_err-create_at.ensures in
    rw (err_is c.from_residual.result c.from_residual.ensures.1)
    (record { answer = plain_lost _ _ _ e.result_value; image = e.img_after; work = e.work_after })

pub returns : goal.returns
returns c = let e = c.in_ok-create_at.ensures in record { answer = plain_made _ _ _ e.result_value; image = e.img_after; work = e.work_after }
