use borrow.Author.Rules.{rules}
use Rattle.own_entry.proofs.Renewals.{sum_told, sum_of_root, sum_damaged}
use Rattle.own_entry.proofs.renew_sum.Goals as goal

pub returns-in-Some : goal.returns-in-Some
returns-in-Some c = search (sum_told, rules)

pub returns-in_default-own : goal.returns-in_default-own
returns-in_default-own c = search (sum_of_root, rules)

pub returns-in_default : goal.returns-in_default
returns-in_default c = search (sum_damaged, rules)
