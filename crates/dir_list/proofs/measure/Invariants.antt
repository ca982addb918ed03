use Rattle.read_dir.specs.Finds.{list_from}
use Rattle.read_dir.specs.Cursor.{cursor_walk, items}
use Prim.Native.Nat.{◌+◌, ◌≤◌, ◌<◌, ◌^◌}
use mathlib.Core.Path.{◌≡◌}
use Rattle.super_block.specs.Super.{area_in}
use Rattle.dir_list.proofs.measure.Given as goal

abbrev pub invariant-loop-x : goal.invariant-loop-x
invariant-loop-x l = (list_from l.cap l.used l.k (cursor_walk (area_in l.v.s) l.v.img.now l.c) ≡ list_from l.cap 0 l.i (cursor_walk (area_in l.v.s) l.v.img.now l.initial.c)) × (l.used ≤ l.cap) × (l.k + items (cursor_walk (area_in l.v.s) l.v.img.now l.c) < 2 ^ 32)

abbrev pub decreases-loop-x : goal.decreases-loop-x
decreases-loop-x l = items (cursor_walk (area_in l.v.s) l.v.img.now l.c)
