use Rattle.lsmfs_pages.proofs.Saying.{says_page, page_told}
use borrow.Author.Rules.{rules}
use Rattle.lsmfs_pages.proofs.say.Goals as goal

pub returns-in-Ok : goal.returns-in-Ok
returns-in-Ok c = search (says_page, page_told, rules)
