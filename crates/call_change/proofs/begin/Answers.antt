use Rattle.model.specs.Steps.{Bytes}
use Rattle.limits.proofs.Passed.{err_is}
use Rattle.call_change.proofs.Changes.{begin_no, begin_refused, begun}
use Rattle.call_change.proofs.begin.Goals as goal

pub returns-in_err-s-clause-begin_is : goal.returns-in_err-s-clause-begin_is
returns-in_err-s-clause-begin_is c = rw (err_is c.from_residual.result c.from_residual.ensures.1) (begin_no _ _ _ _ _ _ c.in_err-s.ensures.answer)

pub returns-in_err-n-clause-begin_is : goal.returns-in_err-n-clause-begin_is
returns-in_err-n-clause-begin_is c = rw (err_is c.from_residual-in_err-n.result c.from_residual-in_err-n.ensures.1) (begin_refused _ _ _ _ _ _ c.in_ok-s.ensures.answer _ _ _ c.in_err-n.ensures)

pub returns-clause-begin_is : goal.returns-clause-begin_is
returns-clause-begin_is c =
    let all : Bytes c.args.img.now = λ i. (c.type_inv.img i).fits in
    begun _ _ _ _ _ _ c.in_ok-s.ensures.answer _ _ all _ c.in_ok-n.ensures c.told-full
