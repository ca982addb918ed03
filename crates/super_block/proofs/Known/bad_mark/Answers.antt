use Rattle.super_block.proofs.Tests.{mark_letters, mark_code, mark_version}
use borrow.Author.Rules.{rules}
use Rattle.super_block.proofs.Known.bad_mark.Goals as goal

pub returns-then-not-same_bytes : goal.returns-then-not-same_bytes
returns-then-not-same_bytes c = search (mark_letters, rules)

pub returns-then-from-code : goal.returns-then-from-code
returns-then-from-code c = search (mark_code, rules)

pub returns-else-from-code : goal.returns-else-from-code
returns-else-from-code c = search (mark_version, rules)
