use Rattle.name_filter.proofs.Marks.{pair_set}
use borrow.Author.Rules.{rules}
use Rattle.name_filter.proofs.set_pair.Goals as goal

pub returns : goal.returns
returns c = search (pair_set, rules)
