use mathlib.Core.Path.{sym}
use lib.Seq.{length-take-le}
use Rattle.limits.proofs.Passed.{err_is}
use Rattle.model.specs.Geometry.{mount}
use Rattle.lsmfs_pages.proofs.Paged.{page_within, page_written, page_refused}
use borrow.Author.Rules.{rules}
use Rattle.lsmfs_pages.proofs.page.Goals as goal

pub returns-in_err-l : goal.returns-in_err-l
returns-in_err-l c = rw (err_is c.from_residual.result c.from_residual.ensures.1) (page_refused _ _ _ _ _ _ c.in_err-l.ensures _)

pub slice_bounds-records-end : goal.slice_bounds-records-end
slice_bounds-records-end c =
    let a = c.args in
    page_within (mount a.k 0) a.img.now a.i _ _ (λ j. (c.type_inv.img j).fits) _ c.in_ok-l.ensures (search rules)

pub slice_bounds-text-end : goal.slice_bounds-text-end
slice_bounds-text-end c =
    let a = c.args in
    sym (length-take-le _ _ (page_within (mount a.k 0) a.img.now a.i _ _ (λ j. (c.type_inv.img j).fits) _ c.in_ok-l.ensures (search rules)))

pub returns : goal.returns
returns c =
    let a = c.args in
    page_written (mount a.k 0) a.img.now a.i _ _ (λ j. (c.type_inv.img j).fits) _ c.in_ok-l.ensures _ _ _ c.text-bytes.ensures.out_after (search rules)
