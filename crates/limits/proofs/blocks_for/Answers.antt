use borrow.Author.Rules.{rules}
use Rattle.model.proofs.Contents.{blocks-none, blocks_last, count_fits}
use Rattle.limits.proofs.blocks_for.Goals as goal

pub returns-then-size-eq0 : goal.returns-then-size-eq0
returns-then-size-eq0 c = search blocks-none

pub overflow_add-result : goal.overflow_add-result
overflow_add-result c = search (count_fits, rules)

pub returns : goal.returns
returns c = search blocks_last
