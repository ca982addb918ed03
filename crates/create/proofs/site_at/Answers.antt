use mathlib.Core.Path.{◌∙◌}
use Rattle.dir.specs.Post.{hold_of}
use Rattle.dir.proofs.Answers.{passed_on}
use Rattle.create.specs.Post.{sited}
use Rattle.create.proofs.Sites.{site_damaged, site_full, site_free, spot_room, spot_in}
use Rattle.create.proofs.site_at.Goals as goal

pub returns-in_err-spot-clause-result_value : goal.returns-in_err-spot-clause-result_value
returns-in_err-spot-clause-result_value c =
    passed_on (sited (hold_of c.args.h)) _ _ c.from_residual.ensures.1
    ∙ site_damaged c.args.v.s c.args.v.img.now (hold_of c.args.h) _ _ c.in_err-spot.ensures

pub returns-then-lacks-clause-result_value : goal.returns-then-lacks-clause-result_value
returns-then-lacks-clause-result_value c =
    site_full c.args.v.s c.args.v.img.now (hold_of c.args.h) _ _ c.in_ok-spot.ensures _ c.blocks_needed-needed.ensures _ c.lacks.ensures c.if-lacks.true

pub returns-clause-result_value : goal.returns-clause-result_value
returns-clause-result_value c =
    site_free c.args.v.s c.args.v.img.now (hold_of c.args.h) _ _ c.in_ok-spot.ensures _ c.blocks_needed-needed.ensures _ c.lacks.ensures c.if-lacks.false

pub returns-clause-sited_in : goal.returns-clause-sited_in
returns-clause-sited_in c = (
  spot_room c.args.v.s c.args.v.img.now c.in_ok-spot.spot _ c.blocks_needed-needed.ensures _ c.requires c.lacks.ensures c.if-lacks.false,
  spot_in c.args.v.s c.args.v.img.now c.in_ok-spot.spot _ _ c.in_ok-spot.ensures,
)
