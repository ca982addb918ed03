use Rattle.create_store.proofs.Steps.{enter_image}
use borrow.Author.Rules.{rules}
use Rattle.create_store.proofs.enter.Goals as goal

pub returns : goal.returns
returns c = (search (enter_image, rules), search rules)
