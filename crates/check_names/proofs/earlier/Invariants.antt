use Rattle.check_names.specs.Names.{one_of, names_in}
use Rattle.read_dir.specs.Cursor.{cursor_walk}
use Prim.Native.Nat.{◌-◌}
use lib.ListN.{take}
use mathlib.Core.Path.{◌≡◌}
use Rattle.super_block.specs.Super.{area_in}
use Rattle.check_names.proofs.earlier.Given as goal

abbrev pub invariant-loop : goal.invariant-loop
invariant-loop l = one_of l.name (take (l.i - l.counter) (names_in (cursor_walk (area_in l.v.s) l.v.img.now l.c))) ≡ one_of l.name (take l.i (names_in (cursor_walk (area_in l.v.s) l.v.img.now l.initial.c)))
