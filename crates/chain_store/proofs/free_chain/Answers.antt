use borrow.Author.Rules.{rules}
use Rattle.super_block.proofs.Fits.{has_first, has_below}
use Rattle.chain_store.proofs.Answers.{chain_begins, chain_out, chain_more, chain_end}
use Rattle.chain_store.proofs.free_chain.Goals as goal

pub loop-init : goal.loop-init
loop-init c = search chain_begins

pub returns-then-not-has : goal.returns-then-not-has
returns-then-not-has c = search (chain_out, rules)

pub release-requires : goal.release-requires
release-requires c = search (has_first, has_below, rules)

pub loop-preserved : goal.loop-preserved
loop-preserved c = search (chain_more, rules)

pub returns : goal.returns
returns c = search (chain_end, rules)
