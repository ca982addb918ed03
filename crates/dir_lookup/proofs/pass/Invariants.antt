use Prim.Native.Nat.{◌-◌}
use mathlib.Core.Bool.{false}
use Rattle.super_block.specs.Super.{area_in}
use Rattle.read_dir.proofs.Passes.{Behind}
use Rattle.dir_lookup.proofs.pass.Given as goal

abbrev pub invariant-loop-c : goal.invariant-loop-c
invariant-loop-c g l = Behind (area_in l.v.s) l.v.img.now (λ o n. goal.F-post g l.stops o n false) l.c l.o

abbrev pub decreases-loop-c : goal.decreases-loop-c
decreases-loop-c g l = l.v.s.size - l.o
