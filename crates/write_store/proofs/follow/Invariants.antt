use mathlib.Core.Path.{◌≡◌}
use Prim.Native.Nat.{◌-◌}
use Rattle.super_block.specs.Super.{geo_of}
use Rattle.write_store.specs.Write.{hop, Along}
use Rattle.write_store.proofs.follow.Given as goal

abbrev pub invariant-loop : goal.invariant-loop
invariant-loop l = (hop l.v.s.size l.v.img.now (l.k - l.counter) l.b.0 ≡ hop l.v.s.size l.v.img.now l.k l.initial.b.0) × Along (geo_of l.v.s) l.v.img.now l.b.0 (l.k - l.counter)
