use Rattle.name_filter.proofs.Marks.{pair_wiped}
use borrow.Author.Rules.{rules}
use Rattle.name_filter.proofs.wipe_pair.Goals as goal

pub returns : goal.returns
returns c = search (pair_wiped, rules)
