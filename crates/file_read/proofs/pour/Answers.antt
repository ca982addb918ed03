use mathlib.Core.Path.{refl}
use native.Mathlib.Omega.{arith}
use borrow.Author.Rules.{rules}
use Rattle.dir_entry.proofs.Slots.{place_is}
use Rattle.file_read.proofs.Pours.{pour_starts, pour_ends, pour_block, pour_from, pour_again}
use Rattle.file_read.proofs.pour.Goals as goal

pub loop-i-init : goal.loop-i-init
loop-i-init c = (search rules, search rules, refl, search rules, search pour_starts)

pub copy-requires-clause-n_in_bounds_2 : goal.copy-requires-clause-n_in_bounds_2
copy-requires-clause-n_in_bounds_2 c = search (pour_from, place_is)

pub next_addr-b-requires : goal.next_addr-b-requires
next_addr-b-requires c = search pour_block

pub loop-i-preserved : goal.loop-i-preserved
loop-i-preserved c = (omega arith, omega arith, omega arith, search rules, search (pour_again, place_is))

pub returns : goal.returns
returns c = search pour_ends
