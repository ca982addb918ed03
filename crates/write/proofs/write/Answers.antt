use borrow.Author.Rules.{rules}
use Rattle.write.proofs.Stores.{store_can, store_few, store_sum, write_refused, write_done}
use Rattle.write.proofs.write.Goals as goal

pub returns-in_err-at : goal.returns-in_err-at
returns-in_err-at c = search (write_refused, c.in_err-at.ensures)

pub write-requires-clause-can_write : goal.write-requires-clause-can_write
write-requires-clause-can_write c = search (store_can, c.in_ok-at.ensures)

pub overflow_cast-end : goal.overflow_cast-end
overflow_cast-end c = search (store_few, rules, c.in_ok-at.ensures)

pub overflow_add-end : goal.overflow_add-end
overflow_add-end c = search (store_sum, c.in_ok-at.ensures)

pub returns : goal.returns
returns c = search (write_done, c.in_ok-at.ensures)
