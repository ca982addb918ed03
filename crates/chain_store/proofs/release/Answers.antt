use borrow.Author.Rules.{rules}
use Rattle.chain_store.proofs.Answers.{release_none, release_bare, release_some, some_used, index_inside}
use Rattle.chain_store.proofs.release.Goals as goal

pub returns-then-alloc_count-eq0 : goal.returns-then-alloc_count-eq0
returns-then-alloc_count-eq0 c = search (release_none, rules)

pub returns-then-s-x : goal.returns-then-s-x
returns-then-s-x c = search (release_bare, rules)

pub free-requires : goal.free-requires
free-requires c = search (index_inside, some_used, rules)

pub returns : goal.returns
returns c = search (release_some, rules)
