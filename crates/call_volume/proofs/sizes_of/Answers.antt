use borrow.Author.Rules.{rules}
use Rattle.call_volume.proofs.Answers.{sizes_over, sizes_in}
use Rattle.call_volume.proofs.sizes_of.Goals as goal

pub returns-then-n-used : goal.returns-then-n-used
returns-then-n-used c = search (sizes_over, rules)

pub returns : goal.returns
returns c = search (sizes_in, rules)
