use Rattle.bits.proofs.Bits.{bit-set}
use borrow.Author.Rules.{rules}
use Rattle.bits.proofs.set_bit.Goals as goal

pub returns : goal.returns
returns c = search (bit-set, rules)
