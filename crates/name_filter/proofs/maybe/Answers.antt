use borrow.Author.Rules.{rules}
use Rattle.name_filter.proofs.Marks.{maybe_so, maybe_not}
use Rattle.name_filter.proofs.maybe.Goals as goal

pub returns-then-pair : goal.returns-then-pair
returns-then-pair c = search (maybe_so, rules)

pub returns-else-pair : goal.returns-else-pair
returns-else-pair c = search (maybe_not, rules)
