use borrow.Author.Rules.{rules}
use Rattle.reached.proofs.OnTree.{answer_is}
use Rattle.reached.proofs.reached.Goals as goal

pub returns : goal.returns
returns c = record { value = search rules; value_2 = search answer_is }
