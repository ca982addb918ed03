use Rattle.read_dir.proofs.Sizes.{weigh}
use Rattle.read_dir.specs.Finds.{sum_from}
use Rattle.read_dir.specs.Cursor.{cursor_walk, items}
use Prim.Native.Nat.{◌+◌, ◌<◌, ◌^◌}
use mathlib.Core.Path.{◌≡◌}
use Rattle.super_block.specs.Super.{area_in}
use Rattle.read_dir.proofs.sum.Given as goal

abbrev pub invariant-loop-x : goal.invariant-loop-x
invariant-loop-x l = (sum_from l.total (cursor_walk (area_in l.v.s) l.v.img.now l.c) ≡ sum_from 0 (cursor_walk (area_in l.v.s) l.v.img.now l.initial.c)) × (l.total + weigh (cursor_walk (area_in l.v.s) l.v.img.now l.c) < 2 ^ 32)

abbrev pub decreases-loop-x : goal.decreases-loop-x
decreases-loop-x l = items (cursor_walk (area_in l.v.s) l.v.img.now l.c)
