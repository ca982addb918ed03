use Rattle.create_store.proofs.Steps.{in_image, in_place, after_place, after_image}
use borrow.Author.Rules.{rules}
use Rattle.create_store.proofs.open_place.Goals as goal

pub returns-in-In : goal.returns-in-In
returns-in-In c = (search (in_image, rules), search (in_place, rules))

pub returns-in-After : goal.returns-in-After
returns-in-After c = (search (after_image, rules), search (after_place, rules))
