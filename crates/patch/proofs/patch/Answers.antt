use borrow.Author.Rules.{rules}
use Rattle.patch.proofs.Stores.{store_can, store_few, store_sum, patch_refused, patch_done}
use Rattle.patch.proofs.patch.Goals as goal

pub returns-in_err-at : goal.returns-in_err-at
returns-in_err-at c = search (patch_refused, c.in_err-at.ensures)

pub patch-requires-clause-can_patch : goal.patch-requires-clause-can_patch
patch-requires-clause-can_patch c = search (store_can, c.in_ok-at.ensures)

pub overflow_cast-handle : goal.overflow_cast-handle
overflow_cast-handle c = search (store_few, rules, c.in_ok-at.ensures)

pub overflow_add-handle : goal.overflow_add-handle
overflow_add-handle c = search (store_sum, c.in_ok-at.ensures)

pub returns : goal.returns
returns c = search (patch_done, c.in_ok-at.ensures)
