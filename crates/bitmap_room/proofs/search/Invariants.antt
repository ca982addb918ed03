use mathlib.Core.Path.{◌≡◌}
use Prim.Native.Nat.{◌+◌, ◌-◌, ◌≤◌, ◌<◌}
use Rattle.bitmap_room.specs.Search.{clear_in}
use Rattle.bitmap_room.proofs.search.Given as goal

abbrev pub invariant-loop-i : goal.invariant-loop-i
invariant-loop-i l = (l.i ≤ l.all) × (0 < l.left) × (clear_in l.s l.from l.limit l.i + l.left ≡ l.count)

abbrev pub decreases-loop-i : goal.decreases-loop-i
decreases-loop-i l = l.all - l.i
