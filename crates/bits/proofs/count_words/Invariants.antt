use Prim.Native.Nat.{◌*◌, ◌≤◌}
use mathlib.Core.Path.{◌≡◌}
use Rattle.bits.specs.Bit.{ones}
use Rattle.bits.proofs.count_words.Given as goal

abbrev pub invariant-loop-i : goal.invariant-loop-i
invariant-loop-i l = (l.n ≡ ones l.s l.from (64 * l.i)) × (l.n ≤ 64 * l.i)
