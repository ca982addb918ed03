use mathlib.Core.Path.{◌≡◌}
use Prim.Native.Nat.{◌-◌, ◌<◌}
use Rattle.delete_store.specs.Delete.{before_from}
use Rattle.delete_store.proofs.before.Given as goal

abbrev pub invariant-loop : goal.invariant-loop
invariant-loop l = (l.a.0 < l.v.s.blocks) × (before_from l.v.s.size l.v.s.blocks l.v.img.now (l.v.s.blocks - l.counter) l.a.0 l.b.0 ≡ before_from l.v.s.size l.v.s.blocks l.v.img.now (l.v.s.blocks - l.v.s.area.0) l.initial.a.0 l.b.0)
