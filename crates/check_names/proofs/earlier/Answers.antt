use Rattle.check_names.proofs.Along.{earlier_again, earlier_hit, earlier_end, earlier_bad, earlier_none}
use Rattle.super_block.proofs.Fits.{area_inside}
use Rattle.check_names.proofs.earlier.Goals as goal

pub new-c-requires : goal.new-c-requires
new-c-requires c = search area_inside

pub returns-then-named : goal.returns-then-named
returns-then-named c = search (earlier_hit, c.in-Ok-Some.ensures)

pub returns-in-Ok-None : goal.returns-in-Ok-None
returns-in-Ok-None c = search (earlier_end, c.in-Ok-None.ensures)

pub returns-in-Err : goal.returns-in-Err
returns-in-Err c = search (earlier_bad, c.in-Err.ensures)

pub loop-preserved : goal.loop-preserved
loop-preserved c = search (earlier_again, c.in-Ok-Some.ensures)

pub returns : goal.returns
returns c = search earlier_none
