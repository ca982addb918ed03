use borrow.Author.Rules.{rules}
use Rattle.call_volume.proofs.Checked.{fit_opened, few_opened, area_opened, call_short, call_whole, call_damaged}
use Rattle.call_volume.proofs.check_opened.Goals as goal

pub mark_bytes-requires : goal.mark_bytes-requires
mark_bytes-requires c = record { area_le_blocks = search (area_opened, rules); blocks_bound = search (few_opened, rules) }

pub returns-then-work-mark_bytes : goal.returns-then-work-mark_bytes
returns-then-work-mark_bytes c = search (call_short, rules)

pub returns-then-check : goal.returns-then-check
returns-then-check c = search (call_whole, rules)

pub returns-else-check : goal.returns-else-check
returns-else-check c = search (call_damaged, rules)

pub invariant_of-check : goal.invariant_of-check
invariant_of-check c = search (fit_opened, rules)
