use mathlib.Core.Path.{◌≡◌}
use Rattle.super_block.specs.Super.{area_in}
use Rattle.read_dir.specs.Cursor.{cursor_walk, items}
use Rattle.handle.specs.Handles.{current_in}
use Rattle.handle.proofs.Handle.entry.Given as goal

abbrev pub invariant-loop-x : goal.invariant-loop-x
invariant-loop-x l = current_in l.self (cursor_walk (area_in l.v.s) l.v.img.now l.c) ≡ current_in l.self (cursor_walk (area_in l.v.s) l.v.img.now l.initial.c)

abbrev pub decreases-loop-x : goal.decreases-loop-x
decreases-loop-x l = items (cursor_walk (area_in l.v.s) l.v.img.now l.c)
