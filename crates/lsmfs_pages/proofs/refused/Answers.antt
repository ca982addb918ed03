use Rattle.lsmfs_pages.proofs.Saying.{refused_told}
use borrow.Author.Rules.{rules}
use Rattle.lsmfs_pages.proofs.refused.Goals as goal

pub returns : goal.returns
returns c = search (refused_told, rules)
