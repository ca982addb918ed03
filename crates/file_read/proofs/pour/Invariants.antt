use mathlib.Core.Path.{◌≡◌}
use Prim.Native.Nat.{◌-◌, ◌≤◌, ◌<◌}
use lib.ListN.{length}
use Rattle.super_block.specs.Super.{area_in}
use Rattle.file_read.proofs.Pours.{Left}
use Rattle.file_read.proofs.pour.Given as goal

abbrev pub invariant-loop-i : goal.invariant-loop-i
invariant-loop-i l = (l.i ≤ l.k) × (l.at < l.v.s.size - 4) × (length l.buf ≡ length l.initial.buf) × (l.k ≤ length l.initial.buf)
    × (Left (area_in l.v.s) l.v.img.now l.initial.buf l.k l.initial.b.0 l.initial.at l.buf l.b.0 l.at l.i)

abbrev pub decreases-loop-i : goal.decreases-loop-i
decreases-loop-i l = l.k - l.i
