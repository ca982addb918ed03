use Rattle.name_filter.proofs.Marks.{wiped_twice}
use borrow.Author.Rules.{rules}
use Rattle.name_filter.proofs.wipe.Goals as goal

pub returns : goal.returns
returns c = search (wiped_twice, rules)
