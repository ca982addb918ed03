use Rattle.write.proofs.Aims.{held_stale, held_unreached, held_found, held_damaged}
use Rattle.handle.proofs.Seeks.{short_name}
use Rattle.write.proofs.held.Goals as goal
use Rattle.write.proofs.held.Goals.{then-stale-via-then-stale, then-stale-via-else-stale+then-unreached}

pub returns-then-stale : goal.returns-then-stale
returns-then-stale c =
    elim c.then-stale.branch [
      | then-stale-via-then-stale w ↦ search held_stale
      | then-stale-via-else-stale+then-unreached w ↦ search held_unreached
    ]

pub entry-requires : goal.entry-requires
entry-requires c = search short_name

pub returns-in_err-entry : goal.returns-in_err-entry
returns-in_err-entry c = search (held_damaged, c.in_err-entry.was)

pub returns : goal.returns
returns c = search (held_found, c.in_ok-entry.was)
