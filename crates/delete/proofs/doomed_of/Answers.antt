use mathlib.Core.Path.{◌∙◌}
use Rattle.dir.specs.Post.{hold_of}
use Rattle.dir.proofs.Answers.{passed_on}
use Rattle.delete.specs.Post.{doomed}
use Rattle.delete.proofs.Answers.{mark_empty, mark_unheld, mark_lost, mark_full, mark_bare}
use Rattle.delete.proofs.doomed_of.Goals as goal

pub returns-then-is_empty : goal.returns-then-is_empty
returns-then-is_empty c =
    mark_empty c.args.v.s c.args.v.img.now c.args.full.now _ _ c.args.v.fit c.parts_of-parts.ensures.dir_is c.parts_of-parts.ensures.name_is
    _ c.is_empty.ensures c.if-is_empty.true

pub returns-in_err-h : goal.returns-in_err-h
returns-in_err-h c =
    passed_on doomed _ _ c.from_residual.ensures.1
    ∙ mark_unheld c.args.v.s c.args.v.img.now c.args.full.now _ _ c.args.v.fit c.parts_of-parts.ensures.dir_is c.parts_of-parts.ensures.name_is
    _ c.is_empty.ensures c.if-is_empty.false _ c.in_err-h.ensures

pub returns-in_err-x : goal.returns-in_err-x
returns-in_err-x c =
    passed_on doomed _ _ c.from_residual-in_err-x.ensures.1
    ∙ mark_lost c.args.v.s c.args.v.img.now c.args.full.now _ _ c.args.v.fit c.parts_of-parts.ensures.dir_is c.parts_of-parts.ensures.name_is
    _ c.is_empty.ensures c.if-is_empty.false (hold_of c.in_ok-h.h) c.in_ok-h.ensures _ c.in_err-x.ensures

pub returns-then-has_entries : goal.returns-then-has_entries
returns-then-has_entries c =
    mark_full c.args.v.s c.args.v.img.now c.args.full.now _ _ c.args.v.fit c.parts_of-parts.ensures.dir_is c.parts_of-parts.ensures.name_is
    _ c.is_empty.ensures c.if-is_empty.false (hold_of c.in_ok-h.h) c.in_ok-h.ensures _ c.in_ok-x.ensures _ c.has_entries.ensures c.if-has_entries.true

pub returns : goal.returns
returns c =
    mark_bare c.args.v.s c.args.v.img.now c.args.full.now _ _ c.args.v.fit c.parts_of-parts.ensures.dir_is c.parts_of-parts.ensures.name_is
    _ c.is_empty.ensures c.if-is_empty.false (hold_of c.in_ok-h.h) c.in_ok-h.ensures _ c.in_ok-x.ensures _ c.has_entries.ensures c.if-has_entries.false
