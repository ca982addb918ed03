use mathlib.Core.Path.{◌∙◌}
use Rattle.super_block.specs.Super.{area_in}
use Rattle.dir.specs.Post.{located}
use Rattle.dir.proofs.Answers.{passed_on, entry_empty, entry_no, entry_lost, entry_found}
use Rattle.dir.proofs.find.Goals as goal

pub returns-then-is_empty : goal.returns-then-is_empty
returns-then-is_empty c =
    entry_empty (area_in c.args.v.s) c.args.v.img.now c.args.full.now _ _ c.parts_of-parts.ensures.dir_is c.parts_of-parts.ensures.name_is
    _ c.is_empty.ensures c.if-is_empty.true

pub returns-in_err-dir : goal.returns-in_err-dir
returns-in_err-dir c =
    passed_on located _ _ c.from_residual.ensures.1
    ∙ entry_no (area_in c.args.v.s) c.args.v.img.now c.args.full.now _ _ c.parts_of-parts.ensures.dir_is c.parts_of-parts.ensures.name_is
    _ c.is_empty.ensures c.if-is_empty.false _ c.in_err-dir.ensures

pub returns-in_err-found : goal.returns-in_err-found
returns-in_err-found c =
    passed_on located _ _ c.from_residual-in_err-found.ensures.1
    ∙ entry_lost (area_in c.args.v.s) c.args.v.img.now c.args.full.now _ _ c.parts_of-parts.ensures.dir_is c.parts_of-parts.ensures.name_is
    _ c.is_empty.ensures c.if-is_empty.false _ c.in_ok-dir.ensures _ c.in_err-found.ensures

pub returns : goal.returns
returns c =
    entry_found (area_in c.args.v.s) c.args.v.img.now c.args.full.now _ _ c.parts_of-parts.ensures.dir_is c.parts_of-parts.ensures.name_is
    _ c.is_empty.ensures c.if-is_empty.false _ c.in_ok-dir.ensures _ c.in_ok-found.ensures
