use Rattle.name_filter.proofs.Marks.{noted_twice}
use borrow.Author.Rules.{rules}
use Rattle.name_filter.proofs.note.Goals as goal

pub returns : goal.returns
returns c = search (noted_twice, rules)
