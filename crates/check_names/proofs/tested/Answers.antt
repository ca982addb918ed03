use borrow.Author.Tests.{not-true, not-false}
use Rattle.check_names.proofs.Along.{met_start, met_within}
use Rattle.check_names.proofs.Along.{tested_again, tested_hit, tested_within, tested_end, tested_bad}
use Rattle.read_dir.proofs.Along.{step_less, number_fits}
use Rattle.super_block.proofs.Fits.{area_inside}
use Rattle.check_names.proofs.tested.Goals as goal

pub new-c-requires : goal.new-c-requires
new-c-requires c = search area_inside

pub loop-x-init : goal.loop-x-init
loop-x-init c = search met_start

pub returns-then-not-fresh : goal.returns-then-not-fresh
returns-then-not-fresh c = record { value = search (tested_hit, not-true, c.in-Ok-Some.ensures); only = search (tested_within, c.in-Ok-Some.ensures) }

pub overflow_add-i : goal.overflow_add-i
overflow_add-i c = record { fits = search number_fits }

pub loop-x-smaller : goal.loop-x-smaller
loop-x-smaller c = search step_less

pub loop-x-preserved : goal.loop-x-preserved
loop-x-preserved c = search (tested_again, not-false, c.in-Ok-Some.ensures)

pub returns-in-Ok-None : goal.returns-in-Ok-None
returns-in-Ok-None c = record { value = search (tested_end, c.in-Ok-None.ensures); only = search met_within }

pub returns-in-Err : goal.returns-in-Err
returns-in-Err c = record { value = search (tested_bad, c.in-Err.ensures); only = search met_within }
