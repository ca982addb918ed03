use Rattle.read_dir.proofs.Moves.{moves}
use Rattle.read_dir.specs.Cursor.{cursor_walk}
use mathlib.Core.Path.{◌≡◌}
use Rattle.super_block.specs.Super.{area_in}
use Rattle.read_dir.proofs.ReadDir.next.Given as goal

abbrev pub invariant-loop-x : goal.invariant-loop-x
invariant-loop-x l = cursor_walk (area_in l.v.s) l.v.img.now l.self ≡ cursor_walk (area_in l.v.s) l.v.img.now l.initial.self

abbrev pub decreases-loop-x : goal.decreases-loop-x
decreases-loop-x l = moves (area_in l.v.s) l.self
