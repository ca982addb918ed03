use Rattle.create_store.proofs.Steps.{grow_image}
use borrow.Author.Rules.{rules}
use Rattle.create_store.proofs.grow.Goals as goal

pub returns : goal.returns
returns c = (search (grow_image, rules), search rules)
