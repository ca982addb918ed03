use mathlib.Core.Path.{sym, ◌∙◌}
use native.Mathlib.Omega.{arith}
use borrow.Author.Rules.{rules}
use borrow.Author.Tests.{leb-true}
use lib.ListN.{length}
use Rattle.lsmfs_lines.specs.Text.{next_at}
use Rattle.lsmfs_lines.proofs.Texts.{done_none, done_more, done_all}
use Rattle.lsmfs_lines.proofs.text.Goals as goal

pub loop-out-init : goal.loop-out-init
loop-out-init c = done_none c.args.out.now c.args.records.now

pub record_line-used-requires : goal.record_line-used-requires
record_line-used-requires c =
    let a = c.args in
    let l = c.loop-out in
    let h = leb-true (next_at a.records.now l.at) (length a.records.now) (sym c.is_whole.ensures ∙ c.loop-out-test.true) in
    let i = l.invariant.inside in
    let s = l.invariant.short in
    let m = l.invariant.same in
    record { at_in_bounds = h; at_in_bounds_2 = omega arith }

pub next-at-requires : goal.next-at-requires
next-at-requires c =
    let a = c.args in
    let l = c.loop-out in
    leb-true (next_at a.records.now l.at) (length a.records.now) (sym c.is_whole.ensures ∙ c.loop-out-test.true)

pub loop-out-smaller : goal.loop-out-smaller
loop-out-smaller c =
    let a = c.args in
    let l = c.loop-out in
    omega (arith, c.next-at.ensures, leb-true (next_at a.records.now l.at) (length a.records.now) (sym c.is_whole.ensures ∙ c.loop-out-test.true))

pub loop-out-preserved : goal.loop-out-preserved
loop-out-preserved c =
    let a = c.args in
    let l = c.loop-out in
    let e = c.record_line-used.ensures in
    done_more a.out.now l.out _ a.records.now l.at l.used _ _ (omega arith) l.invariant (sym c.is_whole.ensures ∙ c.loop-out-test.true) (search rules) e.out_after e.upper_bound c.next-at.ensures

pub returns : goal.returns
returns c =
    let a = c.args in
    let l = c.loop-out in
    let r = done_all a.out.now l.out a.records.now l.at l.used l.invariant (sym c.is_whole.ensures ∙ c.loop-out-test.false) in
    record { out_after = r.0; value = r.1 }
