use Rattle.limits.proofs.Exits.{damage_is, gave_some, gave_none}
use Rattle.read_dir.proofs.Along.{step_less, list_again, list_full, list_end, list_bad, count_again, number_fits}
use borrow.Author.Rules.{rules}
use Rattle.dir_list.proofs.measure.Goals as goal

pub returns-in_err-x : goal.returns-in_err-x
returns-in_err-x c = rw (damage_is c.from_residual.result c.from_residual.ensures.0) (search (list_bad, c.in_err-x.was))

pub returns-then-cap-used : goal.returns-then-cap-used
returns-then-cap-used c = search (list_full, gave_some, c.in_ok-x.was)

pub overflow_add-k : goal.overflow_add-k
overflow_add-k c = record { fits = search (number_fits, c.in_ok-x.was) }

pub loop-x-smaller : goal.loop-x-smaller
loop-x-smaller c = search (step_less, c.in_ok-x.was)

pub loop-x-preserved : goal.loop-x-preserved
loop-x-preserved c = (search (list_again, gave_some, c.in_ok-x.was), search rules, search (count_again, c.in_ok-x.was))

pub returns : goal.returns
returns c = search (list_end, gave_none, c.in_ok-x.was)
