use Rattle.read_dir.specs.Finds.{skip}
use Rattle.read_dir.specs.Cursor.{cursor_walk}
use Prim.Native.Nat.{◌-◌}
use mathlib.Core.Path.{◌≡◌}
use Rattle.super_block.specs.Super.{area_in}
use Rattle.dir_list.proofs.seek.Given as goal

abbrev pub invariant-loop : goal.invariant-loop
invariant-loop l = skip (l.i - l.counter) (cursor_walk (area_in l.v.s) l.v.img.now l.c) ≡ skip l.i (cursor_walk (area_in l.v.s) l.v.img.now l.initial.c)
