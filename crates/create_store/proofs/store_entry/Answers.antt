use Rattle.create_store.proofs.Steps.{entry_stored}
use borrow.Author.Rules.{rules}
use Rattle.create_store.proofs.store_entry.Goals as goal

pub returns : goal.returns
returns c = search (entry_stored, rules)
