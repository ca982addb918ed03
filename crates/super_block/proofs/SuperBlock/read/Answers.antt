use mathlib.Core.Path.{refl, sym}
use Rattle.limits.proofs.Passed.{err_is}
use Rattle.super_block.proofs.Tests.{mark_in, byte_in, count_in, read_code, read_1, read_2, read_3, read_fair, read_0}
use borrow.Author.Rules.{rules}
use Rattle.super_block.proofs.SuperBlock.read.Goals as goal

pub returns-in_err-known : goal.returns-in_err-known
returns-in_err-known c =
    let e = c.in_err-known.ensures.err in
    rw (err_is c.from_residual.result c.from_residual.ensures.1, e.1) (read_code _ _ _ e.0)

pub returns-then-bad_image : goal.returns-then-bad_image
returns-then-bad_image c = search (read_1, rules)

pub bad_mark-requires : goal.bad_mark-requires
bad_mark-requires c = search (mark_in, rules)

pub returns-then-bad_mark : goal.returns-then-bad_mark
returns-then-bad_mark c = search (read_2, rules)

pub bounds-img-at : goal.bounds-img-at
bounds-img-at c = search (byte_in, rules)

pub get32-n-requires : goal.get32-n-requires
get32-n-requires c = search (count_in, rules)

pub returns-then-bad_count : goal.returns-then-bad_count
returns-then-bad_count c = search (read_3, rules)

pub new-requires : goal.new-requires
new-requires c = search (read_fair, rules)

pub returns : goal.returns
returns c =
    let k = c.in_ok-known.known in
    rw (sym c.in_ok-known.ensures.ok)
    (read_0 k.m.k k.m.code c.args.img.now k.known c.bad_image.ensures c.if-bad_image.false c.bad_mark.ensures c.if-bad_mark.false c.block_size.ensures.0 c.offset-at.ensures refl c.get32-n.ensures c.bad_count.ensures c.if-bad_count.false c.new.ensures)
