use mathlib.Core.Path.{◌≡◌}
use Prim.Native.Nat.{◌-◌}
use Rattle.super_block.specs.Super.{area_in}
use Rattle.file_read.specs.Post.{after}
use Rattle.file_read.proofs.follow.Given as goal

abbrev pub invariant-loop : goal.invariant-loop
invariant-loop l = after (area_in l.v.s) l.v.img.now (l.k - l.counter) l.b.0 ≡ after (area_in l.v.s) l.v.img.now l.k l.initial.b.0
