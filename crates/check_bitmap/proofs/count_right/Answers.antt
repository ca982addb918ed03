use borrow.Author.Rules.{rules}
use Rattle.check_bitmap.proofs.Answers.{bits_in, sum_fits}
use Rattle.check_bitmap.proofs.count_right.Goals as goal

pub count-set-requires : goal.count-set-requires
count-set-requires c = search (bits_in, rules)

pub overflow_add-result : goal.overflow_add-result
overflow_add-result c = search (sum_fits, rules)
