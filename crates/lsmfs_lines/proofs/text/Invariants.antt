use Prim.Native.Nat.{◌-◌}
use lib.ListN.{length}
use Rattle.lsmfs_lines.proofs.Texts.{Done}
use Rattle.lsmfs_lines.proofs.text.Given as goal

abbrev pub invariant-loop-out : goal.invariant-loop-out
invariant-loop-out l = Done l.initial.out l.out l.records l.at l.used

abbrev pub decreases-loop-out : goal.decreases-loop-out
decreases-loop-out l = length l.records - l.at
