use Rattle.block.proofs.Blocks.{link_fits, behind_fits}
use borrow.Author.Rules.{rules}
use Rattle.dir_entry.proofs.place.Goals as goal

pub overflow_add-result : goal.overflow_add-result
overflow_add-result c = search (link_fits, rules)

pub overflow_add-result-2 : goal.overflow_add-result-2
overflow_add-result-2 c = search (behind_fits, rules)
