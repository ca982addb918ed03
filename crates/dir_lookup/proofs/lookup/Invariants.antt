use Rattle.read_dir.specs.Finds.{find_in}
use Rattle.read_dir.specs.Cursor.{cursor_walk, items}
use mathlib.Core.Path.{◌≡◌}
use Rattle.super_block.specs.Super.{area_in}
use Rattle.dir_lookup.proofs.lookup.Given as goal

abbrev pub invariant-loop-x : goal.invariant-loop-x
invariant-loop-x l = find_in l.name (cursor_walk (area_in l.v.s) l.v.img.now l.c) ≡ find_in l.name (cursor_walk (area_in l.v.s) l.v.img.now l.initial.c)

abbrev pub decreases-loop-x : goal.decreases-loop-x
decreases-loop-x l = items (cursor_walk (area_in l.v.s) l.v.img.now l.c)
