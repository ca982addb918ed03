use Rattle.delete_store.proofs.Answers.{unlink_is}
use Rattle.chain_store.proofs.Answers.{still_fit}
use borrow.Author.Rules.{rules}
use Rattle.block.proofs.Blocks.{linked_inside}
use Rattle.super_block.proofs.Fits.{fit_inside}
use Rattle.delete_store.proofs.unlink.Goals as goal

pub set_next_addr-requires : goal.set_next_addr-requires
set_next_addr-requires c = search (linked_inside, fit_inside)

pub release-requires : goal.release-requires
release-requires c = search (still_fit, rules)

pub returns : goal.returns
returns c = search (unlink_is, rules)
