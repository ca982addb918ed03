use Prim.Native.Nat.{◌-◌}
use mathlib.Core.Path.{◌≡◌}
use lib.ListN.{length}
use Rattle.check_chain.proofs.Chains.{Left, device_check}
use Rattle.super_block.specs.Super.{area_in}
use Rattle.check_chain.proofs.chain.Given as goal

abbrev pub invariant-loop : goal.invariant-loop
invariant-loop l = (length l.work ≡ length l.initial.work) × Left (area_in l.v.s) (device_check (area_in l.v.s) l.v.img.now) l.initial.work (l.v.s.blocks - l.v.s.area.0) l.initial.b.0 l.work l.b.0 l.counter
