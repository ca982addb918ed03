use Rattle.read_dir.proofs.Moves.{go_less, go_again, step_entry, step_end, step_damaged}
use borrow.Author.Rules.{rules}
use Rattle.read_dir.proofs.ReadDir.next.Goals as goal

pub loop-x-init : goal.loop-x-init
loop-x-init c = search rules

pub returns-in-Entry : goal.returns-in-Entry
returns-in-Entry c = search step_entry

pub loop-x-smaller : goal.loop-x-smaller
loop-x-smaller c = search go_less

pub loop-x-preserved : goal.loop-x-preserved
loop-x-preserved c = search go_again

pub returns-in-End : goal.returns-in-End
returns-in-End c = search step_end

pub returns-in-Damaged : goal.returns-in-Damaged
returns-in-Damaged c = search step_damaged
