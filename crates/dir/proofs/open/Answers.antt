use mathlib.Core.Path.{◌∙◌}
use Rattle.super_block.specs.Super.{area_in}
use Rattle.dir.specs.Post.{number_of, hold_of}
use Rattle.dir.proofs.Answers.{passed_on}
use Rattle.dir.proofs.HoldLaws.{open_held, open_unheld}
use Rattle.dir.proofs.open.Goals as goal

pub returns-in_err-hold : goal.returns-in_err-hold
returns-in_err-hold c =
    passed_on number_of _ _ c.from_residual.ensures.1 ∙ open_unheld (area_in c.args.v.s) c.args.v.img.now c.args.dir_path.now _ c.in_err-hold.ensures

pub returns : goal.returns
returns c = open_held (area_in c.args.v.s) c.args.v.img.now c.args.dir_path.now (hold_of c.in_ok-hold.field-0) c.in_ok-hold.ensures
