use Rattle.create_store.proofs.Spots.{used_start, used_stop, used_ends, used_less, used_again}
use native.Mathlib.Omega.{arith}
use borrow.Author.Rules.{rules}
use Rattle.create_store.proofs.used_bytes.Goals as goal

pub loop-e-init : goal.loop-e-init
loop-e-init c = (omega arith, used_start _ _ _)

pub loop-e-smaller : goal.loop-e-smaller
loop-e-smaller c = search used_less

pub loop-e-preserved : goal.loop-e-preserved
loop-e-preserved c = (search used_ends, search used_again)

pub returns : goal.returns
returns c = (search used_stop, search rules)
