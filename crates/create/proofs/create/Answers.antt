use mathlib.Core.Path.{sym, ◌∙◌}
use Rattle.dir.specs.Post.{hold_of}
use Rattle.dir.proofs.Answers.{passed_on}
use Rattle.dir.proofs.HoldLaws.{hold_inside}
use Rattle.create.specs.Post.{made}
use Rattle.create.proofs.Sites.{path_bad, path_bad_leaves, short_name, path_refused, path_leaves, path_done, path_stored}
use Rattle.create.proofs.create.Goals as goal

pub returns-then-bad_name-clause-result_value : goal.returns-then-bad_name-clause-result_value
returns-then-bad_name-clause-result_value c =
    path_bad c.args.s c.args.img.now c.args.kind c.args.full.now _ _ c.args.time c.parts_of-parts.ensures.dir_is c.parts_of-parts.ensures.name_is
    _ c.bad_name.ensures c.if-bad_name.true

pub returns-then-bad_name-clause-img_after : goal.returns-then-bad_name-clause-img_after
returns-then-bad_name-clause-img_after c =
    path_bad_leaves c.args.s c.args.img.now c.args.kind c.args.full.now _ _ c.args.time c.parts_of-parts.ensures.dir_is c.parts_of-parts.ensures.name_is
    _ c.bad_name.ensures c.if-bad_name.true

pub returns-in_err-h-clause-result_value : goal.returns-in_err-h-clause-result_value
returns-in_err-h-clause-result_value c =
    passed_on made _ _ c.from_residual.ensures.1
    ∙ path_refused c.args.s c.args.img.now c.args.kind c.args.full.now _ _ c.args.time c.parts_of-parts.ensures.dir_is c.parts_of-parts.ensures.name_is
    _ c.bad_name.ensures c.requires c.if-bad_name.false _ c.in_err-h.ensures

pub returns-in_err-h-clause-img_after : goal.returns-in_err-h-clause-img_after
returns-in_err-h-clause-img_after c =
    path_leaves c.args.s c.args.img.now c.args.kind c.args.full.now _ _ c.args.time c.parts_of-parts.ensures.dir_is c.parts_of-parts.ensures.name_is
    _ c.bad_name.ensures c.requires c.if-bad_name.false _ c.in_err-h.ensures

pub invariant_of-name : goal.invariant_of-name
invariant_of-name c = record { short = short_name _ _ c.bad_name.ensures c.if-bad_name.false }

pub create_in-requires-clause-own_in : goal.create_in-requires-clause-own_in
create_in-requires-clause-own_in c = hold_inside c.args.s c.args.img.now c.requires.fit _ (hold_of c.in_ok-h.h) (sym c.in_ok-h.ensures)

pub returns-clause-result_value : goal.returns-clause-result_value
returns-clause-result_value c =
    path_done c.args.s c.args.img.now c.args.kind c.args.full.now _ _ c.args.time c.parts_of-parts.ensures.dir_is c.parts_of-parts.ensures.name_is
    _ c.bad_name.ensures c.requires c.if-bad_name.false (hold_of c.in_ok-h.h) c.in_ok-h.ensures _ c.create_in.ensures.result_value

pub returns-clause-img_after : goal.returns-clause-img_after
returns-clause-img_after c =
    path_stored c.args.s c.args.img.now c.args.kind c.args.full.now _ _ c.args.time c.parts_of-parts.ensures.dir_is c.parts_of-parts.ensures.name_is
    _ c.bad_name.ensures c.requires c.if-bad_name.false (hold_of c.in_ok-h.h) c.in_ok-h.ensures _ c.create_in.ensures.img_after
