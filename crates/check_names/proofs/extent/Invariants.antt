use Prim.Native.Nat.{◌-◌, ◌<◌}
use Rattle.check_names.proofs.extent.Given as goal

abbrev pub invariant-loop-n : goal.invariant-loop-n
invariant-loop-n l = l.n < 536870912

abbrev pub decreases-loop-n : goal.decreases-loop-n
decreases-loop-n l = 536870912 - l.n
