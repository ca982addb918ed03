use Rattle.check_names.proofs.Marks.{clear_filled}
use Rattle.check_names.proofs.Along.{forget_start, forget_again, forget_end, forget_bad}
use Rattle.super_block.proofs.Fits.{area_inside}
use Rattle.check_names.proofs.forget.Goals as goal

pub new-c-requires : goal.new-c-requires
new-c-requires c = search area_inside

pub loop-init : goal.loop-init
loop-init c = search forget_start

pub loop-preserved : goal.loop-preserved
loop-preserved c = search (forget_again, c.in-Ok-Some.ensures)

pub returns-in-Ok-None : goal.returns-in-Ok-None
returns-in-Ok-None c = search (forget_end, c.in-Ok-None.ensures)

pub returns-in-Err : goal.returns-in-Err
returns-in-Err c = search (forget_bad, c.in-Err.ensures)

pub returns : goal.returns
returns c = search (clear_filled, c.fill.ensures.after (λ y e. e))
