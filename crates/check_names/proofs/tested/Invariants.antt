use Rattle.check_names.proofs.Along.{Met}
use Rattle.read_dir.specs.Cursor.{cursor_walk, items}
use Rattle.read_dir.specs.Walk.{walk}
use Rattle.super_block.specs.Super.{area_in}
use Rattle.check_names.proofs.tested.Given as goal

abbrev pub invariant-loop-x : goal.invariant-loop-x
invariant-loop-x l = Met l.filter l.p.m l.p.k l.i (walk (area_in l.v.s) l.v.img.now l.dir.0) (cursor_walk (area_in l.v.s) l.v.img.now l.c)

abbrev pub decreases-loop-x : goal.decreases-loop-x
decreases-loop-x l = items (cursor_walk (area_in l.v.s) l.v.img.now l.c)
