use Prim.Native.Nat.{ℕ, ◌+◌, ◌*◌, ◌%◌, ◌<◌}
use mathlib.Core.Path.{◌≡◌}
use lib.ListN.{get_or}
use Rattle.recorded.proofs.sow.Given as goal

abbrev pub invariant-loop-x : goal.invariant-loop-x
invariant-loop-x l = (l.b ≡ (l.seed + 7 * l.x-index) % 251) × ((j : ℕ) → j < l.x-index → get_or l.buf j 0 ≡ (l.seed + 7 * j) % 251)
