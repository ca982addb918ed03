use borrow.Author.Rules.{rules}
use Rattle.name_filter.proofs.Marks.{pair_low, pair_both}
use Rattle.name_filter.proofs.pair.Goals as goal

pub returns-then-bit_at-eq1 : goal.returns-then-bit_at-eq1
returns-then-bit_at-eq1 c = search (pair_both, rules)

pub returns-else-bit_at-eq1 : goal.returns-else-bit_at-eq1
returns-else-bit_at-eq1 c = search (pair_low, rules)
