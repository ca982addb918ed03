use Rattle.super_block.specs.Super.{area_in}
use Rattle.super_block.proofs.Fits.{area_inside}
use Rattle.file_read.proofs.Follows.{begin_none, begin_over, lost_begins, begin_lost, begin_cut, begin_found}
use Rattle.file_read.proofs.begin.Goals as goal

pub returns-then-k-eq0 : goal.returns-then-k-eq0
returns-then-k-eq0 c = search begin_none

pub overflow_sub-v : goal.overflow_sub-v
overflow_sub-v c = search area_inside

pub returns-then-v-d : goal.returns-then-v-d
returns-then-v-d c = search begin_over

pub returns-in_err-b : goal.returns-in_err-b
returns-in_err-b c =
    lost_begins (area_in c.args.v.s) c.args.v.img.now c.args.a.0 c.args.p c.args.k c.from_residual.result c.from_residual.ensures.0
    (search (begin_lost, c.in_err-b.ensures))

pub returns-in_err-follow : goal.returns-in_err-follow
returns-in_err-follow c =
    lost_begins (area_in c.args.v.s) c.args.v.img.now c.args.a.0 c.args.p c.args.k c.from_residual-in_err-follow.result
    c.from_residual-in_err-follow.ensures.0 (search (begin_cut, c.in_ok-b.ensures, c.in_err-follow.ensures))

pub returns : goal.returns
returns c = search (begin_found, c.in_ok-b.ensures, c.in_ok-follow.ensures)
