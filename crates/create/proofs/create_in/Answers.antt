use mathlib.Core.Path.{◌∙◌}
use Rattle.super_block.specs.Super.{geo_of}
use Rattle.dir.specs.Post.{hold_of}
use Rattle.dir.proofs.Answers.{passed_on}
use Rattle.create.specs.Post.{made}
use Rattle.create.proofs.Sites.{create_refused, create_leaves, create_block, create_stores}
use Rattle.create.proofs.create_in.Goals as goal

pub returns-in_err-spot-clause-result_value : goal.returns-in_err-spot-clause-result_value
returns-in_err-spot-clause-result_value c =
    passed_on made _ _ c.from_residual.ensures.1 ∙ create_refused (geo_of c.args.s) c.args.img.now _ _ c.in_err-spot.ensures.result_value

pub returns-in_err-spot-clause-img_after : goal.returns-in_err-spot-clause-img_after
returns-in_err-spot-clause-img_after c = create_leaves (geo_of c.args.s) c.args.img.now _ c.args.kind c.args.name.bytes.now c.args.time _ c.in_err-spot.ensures.result_value

pub returns-clause-result_value : goal.returns-clause-result_value
returns-clause-result_value c =
    create_block (geo_of c.args.s) c.args.img.now _ (hold_of c.args.h) c.in_ok-spot.spot c.in_ok-spot.ensures.result_value _ c.insert-block.ensures.1

pub returns-clause-img_after : goal.returns-clause-img_after
returns-clause-img_after c =
    create_stores (geo_of c.args.s) c.args.img.now _ (hold_of c.args.h) c.in_ok-spot.spot c.in_ok-spot.ensures.result_value
    c.args.kind c.args.name.bytes.now c.args.time _ c.insert-block.ensures.0
