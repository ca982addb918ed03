use Prim.Native.Nat.{◌+◌, ◌-◌, ◌/◌, ◌^◌}
use mathlib.Core.Path.{◌≡◌}
use Rattle.wire.specs.Be.{bytes, splice}
use Rattle.wire.proofs.put.Given as goal

abbrev pub invariant-loop-i : goal.invariant-loop-i
invariant-loop-i l = (l.w ≡ l.v / 256 ^ (l.n - l.i)) × (l.s ≡ splice l.initial.s (l.at + l.i) (bytes (l.n - l.i) l.v))
