use Rattle.model.specs.Steps.{Bytes}
use Rattle.limits.proofs.Passed.{err_is}
use Rattle.call_change.proofs.Changes.{ready}
use Rattle.call_patch.proofs.Calls.{patch_no, patch_yes}
use Rattle.call_patch.proofs.patch_on.Goals as goal

pub returns-in_err-s : goal.returns-in_err-s
returns-in_err-s c = rw (err_is c.from_residual.result c.from_residual.ensures.1) (patch_no _ _ _ _ _ _ _ _ c.in_err-s.ensures)

pub patch-requires : goal.patch-requires
patch-requires c =
    let all : Bytes c.args.img.now = λ i. (c.slice_known-1.given i).fits in
    ready _ _ _ all _ c.in_ok-s.ensures.answer

pub returns : goal.returns
returns c = patch_yes _ _ _ _ _ _ _ _ c.in_ok-s.ensures _ _ c.patch.ensures
