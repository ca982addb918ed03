use mathlib.Core.Path.{◌≡◌}
use lib.ListN.{length}
use Rattle.check_chain.proofs.Chains.{Left, file_check}
use Rattle.super_block.specs.Super.{area_in}
use Rattle.check_chain.proofs.cells.Given as goal

abbrev pub invariant-loop : goal.invariant-loop
invariant-loop l = (length l.work ≡ length l.initial.work) × Left (area_in l.v.s) (file_check (area_in l.v.s) l.v.img.now) l.initial.work l.k l.initial.b.0 l.work l.b.0 l.counter
