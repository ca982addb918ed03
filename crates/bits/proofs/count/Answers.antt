use Rattle.bits.proofs.Words.{ones_parts}
use borrow.Author.Rules.{rules}
use Rattle.bits.proofs.count.Goals as goal

pub returns : goal.returns
returns c = search (ones_parts, rules)
