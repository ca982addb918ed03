use Prim.Native.Nat.{◌<◌}
use mathlib.Core.Path.{◌≡◌}
use Rattle.recorded.specs.Texts.{digest_of}
use Rattle.recorded.proofs.digest.Given as goal

abbrev pub invariant-loop-b : goal.invariant-loop-b
invariant-loop-b l = (l.d ≡ digest_of l.b-index l.s) × (l.d < 4294967291)
