use Rattle.model.specs.Steps.{Bytes}
use Rattle.limits.proofs.Passed.{err_is}
use Rattle.call_volume.proofs.Checked.{check_success, check_refusal_lem}
use Rattle.call_volume.proofs.check.Goals as goal

pub returns-in_err-open_checked : goal.returns-in_err-open_checked
returns-in_err-open_checked c =
    let all : Bytes c.args.img.now = λ i. (c.type_inv.img i).fits in
    rw (err_is c.from_residual.result c.from_residual.ensures.1) (check_refusal_lem _ _ _ _ all _ c.in_err-open_checked.ensures)

pub returns : goal.returns
returns c =
    let all : Bytes c.args.img.now = λ i. (c.type_inv.img i).fits in
    check_success _ _ _ _ all _ c.in_ok-open_checked.ensures
