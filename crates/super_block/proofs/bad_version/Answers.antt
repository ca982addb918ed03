use borrow.Author.Rules.{rules}
use Rattle.super_block.proofs.Tests.{version_new, version_none, version_old}
use Rattle.super_block.proofs.bad_version.Goals as goal

pub returns-in-2 : goal.returns-in-2
returns-in-2 c = search (version_new, rules)

pub returns-in_default : goal.returns-in_default
returns-in_default c = search (version_none, rules)

pub returns-in-1 : goal.returns-in-1
returns-in-1 c = search (version_old, rules)
