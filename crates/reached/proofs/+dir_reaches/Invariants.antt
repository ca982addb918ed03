use mathlib.Core.Path.{◌≡◌}
use Prim.Native.Nat.{◌-◌}
use Rattle.read_dir.specs.Cursor.{cursor_walk, items}
use Rattle.super_block.specs.Super.{area_in}
use Rattle.reached.proofs.Steps.{rest}
use Rattle.reached.proofs.+dir_reaches.Given as goal

abbrev pub invariant-loop-x : goal.invariant-loop-x
invariant-loop-x l = rest (area_in l.v.s) l.v.img.now l.target.0 (l.depth - 1) l.c ≡ rest (area_in l.v.s) l.v.img.now l.target.0 (l.depth - 1) l.initial.c

abbrev pub decreases-loop-x : goal.decreases-loop-x
decreases-loop-x l = items (cursor_walk (area_in l.v.s) l.v.img.now l.c)

abbrev pub decreases-dir_reaches : goal.decreases-dir_reaches
decreases-dir_reaches l = l.depth
