use Rattle.super_block.proofs.Tests.{count_over, count_old, count_few, count_last}
use borrow.Author.Rules.{rules}
use Rattle.super_block.proofs.Known.bad_count.Goals as goal

pub returns-then-len-size : goal.returns-then-len-size
returns-then-len-size c = search (count_over, rules)

pub returns-then-v-eq-OLD_VERSION : goal.returns-then-v-eq-OLD_VERSION
returns-then-v-eq-OLD_VERSION c = search (count_old, rules)

pub returns-then-left-lt2 : goal.returns-then-left-lt2
returns-then-left-lt2 c = search (count_few, rules)

pub returns : goal.returns
returns c = search (count_last, rules)
