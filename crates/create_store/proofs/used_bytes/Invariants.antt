use Rattle.create_store.specs.Create.{stop_from, used_at}
use mathlib.Core.Path.{◌≡◌}
use Prim.Native.Nat.{◌-◌, ◌≤◌}
use Rattle.create_store.proofs.used_bytes.Given as goal

abbrev pub invariant-loop-e : goal.invariant-loop-e
invariant-loop-e l = (l.at ≤ l.v.s.size - 5) × (stop_from l.v.s.size l.v.img.now (l.v.s.size - l.at) l.fn.block.0 l.at ≡ used_at l.v.s.size l.v.img.now l.fn.block.0)

abbrev pub decreases-loop-e : goal.decreases-loop-e
decreases-loop-e l = l.v.s.size - l.at
