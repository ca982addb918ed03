use Rattle.delete_store.proofs.Answers.{bare_first, bare_gone, bare_kept}
use borrow.Author.Rules.{rules}
use Rattle.delete_store.proofs.drop_bare.Goals as goal

pub returns-then-b-dir : goal.returns-then-b-dir
returns-then-b-dir c = search (bare_first, rules)

pub returns-then-zero_bytes : goal.returns-then-zero_bytes
returns-then-zero_bytes c = search (bare_gone, rules)

pub returns-else-zero_bytes : goal.returns-else-zero_bytes
returns-else-zero_bytes c = search (bare_kept, rules)
