use Rattle.super_block.proofs.Fits.{area_inside}
use borrow.Author.Rules.{rules}
use Rattle.delete_store.proofs.free_all.Goals as goal

pub overflow_sub-s : goal.overflow_sub-s
overflow_sub-s c = search (area_inside, rules)
