use Rattle.delete_store.proofs.Answers.{gone_is}
use borrow.Author.Rules.{rules}
use Rattle.delete_store.proofs.take_out.Goals as goal

pub returns : goal.returns
returns c = search (gone_is, rules)
