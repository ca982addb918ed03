use Prim.Native.Nat.{◌^◌, ◌<◌}
use mathlib.Core.Path.{◌≡◌}
use Rattle.wire.specs.Be.{be}
use Rattle.wire.proofs.digits.Given as goal

abbrev pub invariant-loop-b : goal.invariant-loop-b
invariant-loop-b l = (l.v ≡ be l.b-index l.s l.at) × (l.v < 256 ^ l.b-index)
