use Prim.Native.Nat.{◌-◌, ◌^◌, ◌<◌}
use Rattle.cases.proofs.calls.jot.Given as goal

abbrev pub invariant-loop-next : goal.invariant-loop-next
invariant-loop-next g l = l.i < 2 ^ 32

abbrev pub decreases-loop-next : goal.decreases-loop-next
decreases-loop-next g l = 2 ^ 32 - l.i
