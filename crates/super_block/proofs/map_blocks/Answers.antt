use Rattle.super_block.proofs.Tests.{maps_old, maps_new}
use borrow.Author.Rules.{rules}
use Rattle.super_block.proofs.map_blocks.Goals as goal

pub returns-then-v-eq-OLD_VERSION : goal.returns-then-v-eq-OLD_VERSION
returns-then-v-eq-OLD_VERSION c = search (maps_old, rules)

pub returns-else-v-eq-OLD_VERSION : goal.returns-else-v-eq-OLD_VERSION
returns-else-v-eq-OLD_VERSION c = search (maps_new, rules)
