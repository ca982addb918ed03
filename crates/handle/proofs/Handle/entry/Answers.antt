use mathlib.Core.Path.{refl}
use Rattle.limits.proofs.Exits.{damage_is, gave_some, gave_none}
use Rattle.read_dir.proofs.Along.{passed_less}
use Rattle.handle.proofs.Entries.{entry_again, entry_hit, entry_none, entry_bad}
use Rattle.super_block.proofs.Fits.{area_inside}
use Rattle.handle.proofs.Handle.entry.Goals as goal

pub new-c-requires : goal.new-c-requires
new-c-requires c = search area_inside

pub loop-x-init : goal.loop-x-init
loop-x-init c = refl

pub returns-in_err-x : goal.returns-in_err-x
returns-in_err-x c = rw (damage_is c.from_residual.result c.from_residual.ensures.0) (search (entry_bad, c.in_err-x.was))

pub returns-in_default : goal.returns-in_default
returns-in_default c = search (entry_none, gave_none, c.in_ok-x.was)

pub returns-then-current : goal.returns-then-current
returns-then-current c = search (entry_hit, gave_some, c.in_ok-x.was)

pub loop-x-smaller : goal.loop-x-smaller
loop-x-smaller c = search (passed_less, c.in_ok-x.was)

pub loop-x-preserved : goal.loop-x-preserved
loop-x-preserved c = search (entry_again, gave_some, c.in_ok-x.was)
