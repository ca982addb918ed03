use borrow.Author.Rules.{rules}
use Rattle.model.proofs.Owns.{two_stores}
use Rattle.own_entry.proofs.renew_at.Goals as goal

pub returns : goal.returns
returns c = search (two_stores, rules)
