use Rattle.create_store.specs.Create.{spot_from, spot_for}
use mathlib.Core.Path.{◌≡◌}
use Prim.Native.Nat.{◌-◌}
use Rattle.super_block.specs.Super.{area_in}
use Rattle.create_store.proofs.spot_for.Given as goal

abbrev pub invariant-loop : goal.invariant-loop
invariant-loop l = spot_from (area_in l.v.s) l.v.img.now l.len (l.v.s.blocks - l.counter) l.b.0 ≡ spot_for (area_in l.v.s) l.v.img.now l.initial.b.0 l.len
