use Rattle.create_store.proofs.Steps.{take_small, take_image, take_block}
use borrow.Author.Rules.{rules}
use Rattle.create_store.proofs.take_block.Goals as goal

pub addr-requires : goal.addr-requires
addr-requires c = search (take_small, rules)

pub returns : goal.returns
returns c = (search (take_image, rules), search (take_block, rules))
