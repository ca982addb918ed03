use borrow.Author.Rules.{rules}
use Rattle.handle.proofs.Entries.{over_alike}
use Rattle.handle.proofs.Handle.pass_others.Goals as goal

pub returns : goal.returns
returns c = over_alike _ _ c.args.self _ _ _ _ c.pass.ensures c.requires (search rules) (λ o n p. search rules)
