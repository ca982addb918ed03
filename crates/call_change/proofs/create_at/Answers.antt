use mathlib.Core.Path.{ap, ◌∙◌}
use Rattle.path.specs.Path.{last_name}
use Rattle.limits.proofs.Passed.{err_is}
use Rattle.call_change.proofs.Changes.{create_no, create_kept, create_at, create_image_at, created_short, handle_lost, handle_made}
use Rattle.call_change.proofs.create_at.Goals as goal

pub returns-in_err-s-clause-result_value : goal.returns-in_err-s-clause-result_value
returns-in_err-s-clause-result_value c = rw (err_is c.from_residual.result c.from_residual.ensures.1) (create_no _ _ _ _ _ _ c.in_err-s.ensures.begin_is _ _)

pub returns-in_err-s-clause-img_after : goal.returns-in_err-s-clause-img_after
returns-in_err-s-clause-img_after c = create_kept _ _ _ _ _ _ c.in_err-s.ensures.begin_is _ _

pub returns-in_err-created-clause-result_value : goal.returns-in_err-created-clause-result_value
returns-in_err-created-clause-result_value c =
    rw (err_is c.from_residual-in_err-created.result c.from_residual-in_err-created.ensures.1)
    (handle_lost _ _ (c.in_err-created.ensures.result_value ∙ create_at _ _ _ _ _ _ _ _ c.in_ok-s.ensures.begin_is _) _)

pub returns-in_err-created-clause-img_after : goal.returns-in_err-created-clause-img_after
returns-in_err-created-clause-img_after c = c.in_err-created.ensures.img_after ∙ create_image_at _ _ _ _ _ _ _ _ c.in_ok-s.ensures.begin_is _ _

pub invariant_of-new : goal.invariant_of-new
invariant_of-new c = record { short = created_short _ _ _ _ _ c.in_ok-created.ensures.result_value _ c.parts_of.ensures.name_is }

pub returns-clause-result_value : goal.returns-clause-result_value
returns-clause-result_value c =
    let b = c.in_ok-s.ensures.begin_is in
    handle_made _ _ (c.in_ok-created.ensures.result_value ∙ create_at _ _ _ _ _ _ _ _ b _) _ _ (c.parts_of.ensures.name_is ∙ ap last_name b.path) _ c.new.ensures

pub returns-clause-img_after : goal.returns-clause-img_after
returns-clause-img_after c = c.in_ok-created.ensures.img_after ∙ create_image_at _ _ _ _ _ _ _ _ c.in_ok-s.ensures.begin_is _ _
