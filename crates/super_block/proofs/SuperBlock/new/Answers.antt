use Rattle.super_block.proofs.Tests.{data_fits, data_below, bits_fit, made}
use borrow.Author.Rules.{rules}
use Rattle.super_block.proofs.SuperBlock.new.Goals as goal

pub overflow_add-d : goal.overflow_add-d
overflow_add-d c = search (data_fits, rules)

pub overflow_mul-bits : goal.overflow_mul-bits
overflow_mul-bits c = search (bits_fit, rules)

pub overflow_sub-n-2 : goal.overflow_sub-n-2
overflow_sub-n-2 c = search (data_below, rules)

pub returns : goal.returns
returns c = search (made, rules)
