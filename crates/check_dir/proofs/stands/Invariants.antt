use Prim.Native.Nat.{◌-◌, ◌≤◌}
use Rattle.check_dir.proofs.Holds.{Looks}
use Rattle.check_dir.proofs.stands.Given as goal

abbrev pub invariant-loop-e : goal.invariant-loop-e
invariant-loop-e l = (l.o ≤ l.v.s.size - 5) × Looks l.v.s.size l.v.img.now l.later l.a.0 l.o

abbrev pub decreases-loop-e : goal.decreases-loop-e
decreases-loop-e l = l.v.s.size - l.o
