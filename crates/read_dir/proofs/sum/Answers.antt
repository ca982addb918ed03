use Rattle.limits.proofs.Exits.{damage_is, gave_some, gave_none}
use Rattle.read_dir.proofs.Along.{start_weigh, step_less, sum_again, weigh_again, total_fits, sum_end, sum_bad}
use mathlib.Core.Path.{refl}
use Rattle.super_block.proofs.Fits.{area_inside}
use Rattle.read_dir.proofs.sum.Goals as goal

pub new-c-requires : goal.new-c-requires
new-c-requires c = search area_inside

pub loop-x-init : goal.loop-x-init
loop-x-init c = (refl, search start_weigh)

pub returns-in_err-x : goal.returns-in_err-x
returns-in_err-x c = rw (damage_is c.from_residual.result c.from_residual.ensures.0) (search (sum_bad, c.in_err-x.was))

pub overflow_add-total-in-Some : goal.overflow_add-total-in-Some
overflow_add-total-in-Some c = record { fits = search (total_fits, gave_some, c.in_ok-x.was) }

pub loop-x-smaller : goal.loop-x-smaller
loop-x-smaller c = search (step_less, c.in_ok-x.was)

pub loop-x-preserved : goal.loop-x-preserved
loop-x-preserved c = (search (sum_again, gave_some, c.in_ok-x.was), search (weigh_again, gave_some, c.in_ok-x.was))

pub returns : goal.returns
returns c = search (sum_end, gave_none, c.in_ok-x.was)
