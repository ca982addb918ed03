use Rattle.limits.proofs.Exits.{gave_none}
use Rattle.handle.proofs.Handles.{check_stale, check_held, check_missing, check_damaged}
use Rattle.handle.proofs.Seeks.{short_name}
use Rattle.handle.proofs.Handle.check.Goals as goal

pub returns-then-stale : goal.returns-then-stale
returns-then-stale c = search check_stale

pub entry-requires : goal.entry-requires
entry-requires c = search short_name

pub returns-in_err-found : goal.returns-in_err-found
returns-in_err-found c = search (check_damaged, c.in_err-found.was)

pub returns-in-Some : goal.returns-in-Some
returns-in-Some c = search (check_held, c.in_ok-found.was)

pub returns-in-None : goal.returns-in-None
returns-in-None c = search (check_missing, gave_none, c.in_ok-found.was)
