use borrow.Author.Rules.{rules}
use Rattle.super_block.proofs.Tests.{super_steps}
use Rattle.super_block.proofs.SuperBlock.write.Goals as goal

pub returns : goal.returns
returns c = search (super_steps, rules)
