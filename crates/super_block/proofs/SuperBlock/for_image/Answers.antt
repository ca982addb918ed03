use Rattle.limits.proofs.Passed.{err_is}
use Rattle.super_block.proofs.Tests.{blocks_fit, made_code, make_1, make_3, make_fair, make_0}
use borrow.Author.Rules.{rules}
use Rattle.super_block.proofs.SuperBlock.for_image.Goals as goal

pub returns-in_err-known : goal.returns-in_err-known
returns-in_err-known c =
    let e = c.in_err-known.ensures.err in
    rw (err_is c.from_residual.result c.from_residual.ensures.1, e.1) (made_code _ _ _ e.0)

pub returns-then-bad_image : goal.returns-then-bad_image
returns-then-bad_image c = search (make_1, rules)

pub overflow_cast-n-2 : goal.overflow_cast-n-2
overflow_cast-n-2 c = search (blocks_fit, rules)

pub returns-then-bad_count : goal.returns-then-bad_count
returns-then-bad_count c = search (make_3, rules)

pub new-requires : goal.new-requires
new-requires c = search (make_fair, rules)

pub returns : goal.returns
returns c = search (make_0, rules)
