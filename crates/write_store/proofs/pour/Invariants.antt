use mathlib.Core.Path.{◌≡◌}
use Prim.Native.Nat.{◌-◌, ◌<◌}
use lib.ListN.{length}
use Rattle.super_block.specs.Super.{geo_of}
use Rattle.write_store.specs.Write.{Along, poured}
use Rattle.write_store.proofs.pour.Given as goal

abbrev pub invariant-loop : goal.invariant-loop
invariant-loop l = (l.at < l.s.size - 4) × (length l.img ≡ length l.initial.img)
    × (poured l.s.size l.img l.b.0 l.at l.rest (l.k - l.counter) ≡ poured l.s.size l.initial.img l.initial.b.0 l.initial.at l.buf l.k)
    × (Along (geo_of l.s) l.img l.b.0 (l.k - l.counter))
