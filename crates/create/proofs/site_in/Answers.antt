use mathlib.Core.Path.{sym, ◌∙◌}
use Rattle.dir.specs.Post.{hold_of}
use Rattle.dir.proofs.Answers.{passed_on}
use Rattle.create.specs.Post.{sited}
use Rattle.create.proofs.Sites.{in_deep, in_exists, in_damaged, in_free}
use Rattle.create.proofs.site_in.Goals as goal

pub returns-then-too_deep-clause-result_value : goal.returns-then-too_deep-clause-result_value
returns-then-too_deep-clause-result_value c = in_deep c.args.v.s c.args.v.img.now c.requires (hold_of c.args.h) c.args.kind c.args.name.bytes.now _ c.too_deep.ensures c.if-too_deep.true

pub returns-in_err-lookup-clause-result_value : goal.returns-in_err-lookup-clause-result_value
returns-in_err-lookup-clause-result_value c =
    passed_on (sited (hold_of c.args.h)) _ _ c.from_residual.ensures.1
    ∙ in_damaged c.args.v.s c.args.v.img.now c.requires (hold_of c.args.h) c.args.kind c.args.name.bytes.now _ c.too_deep.ensures
    _ c.if-too_deep.false c.lookup.ensures _ c.in_err-lookup.was

pub returns-then-is_some-clause-result_value : goal.returns-then-is_some-clause-result_value
returns-then-is_some-clause-result_value c =
    in_exists c.args.v.s c.args.v.img.now c.requires (hold_of c.args.h) c.args.kind c.args.name.bytes.now _ c.too_deep.ensures
    _ c.if-too_deep.false c.lookup.ensures _ c.in_ok-lookup.was (sym c.is_some.ensures ∙ c.if-is_some.true)

pub returns-clause-result_value : goal.returns-clause-result_value
returns-clause-result_value c =
    in_free c.args.v.s c.args.v.img.now c.requires (hold_of c.args.h) c.args.kind c.args.name.bytes.now _ c.too_deep.ensures
    _ c.if-too_deep.false c.lookup.ensures _ c.in_ok-lookup.was (sym c.is_some.ensures ∙ c.if-is_some.false) _ c.len.ensures
    _ c.site_at.ensures.result_value
