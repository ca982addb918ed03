use borrow.Author.Rules.{rules}
use Rattle.delete_store.proofs.Answers.{before_stop, before_more, before_end}
use Rattle.delete_store.proofs.before.Goals as goal

pub returns-then-next-b : goal.returns-then-next-b
returns-then-next-b c = (search (before_stop, rules), search rules)

pub loop-preserved : goal.loop-preserved
loop-preserved c = (search rules, search (before_more, rules))

pub returns : goal.returns
returns c = (search (before_end, rules), search rules)
