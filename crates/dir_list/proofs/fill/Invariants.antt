use Rattle.read_dir.specs.Finds.{records_from}
use Rattle.read_dir.specs.Cursor.{cursor_walk, items}
use lib.ListN.{length, take, drop}
use Prim.Native.Nat.{◌≤◌, ◌<◌, ◌^◌}
use mathlib.Core.List.{◌++◌}
use mathlib.Core.Path.{◌≡◌}
use Rattle.super_block.specs.Super.{area_in}
use Rattle.dir_list.proofs.fill.Given as goal

abbrev pub invariant-loop-x : goal.invariant-loop-x
invariant-loop-x l = (take l.used l.buf ++ records_from l.cap l.used (cursor_walk (area_in l.v.s) l.v.img.now l.c) ≡ records_from l.cap 0 (cursor_walk (area_in l.v.s) l.v.img.now l.initial.c)) × (drop l.used l.buf ≡ drop l.used l.initial.buf) × (l.used ≤ length l.buf) × (length l.buf ≡ length l.initial.buf) × (l.cap ≡ length l.buf) × (length l.buf < 2 ^ 63)

abbrev pub decreases-loop-x : goal.decreases-loop-x
decreases-loop-x l = items (cursor_walk (area_in l.v.s) l.v.img.now l.c)
