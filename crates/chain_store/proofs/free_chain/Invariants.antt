use mathlib.Core.Path.{◌≡◌}
use Prim.Native.Nat.{◌-◌}
use Rattle.super_block.specs.Super.{geo_of}
use Rattle.chain_store.specs.Chain.{chain_freed}
use Rattle.chain_store.proofs.free_chain.Given as goal

abbrev pub invariant-loop : goal.invariant-loop
invariant-loop l = chain_freed (geo_of l.s) l.img (l.k - l.counter) l.b.0 ≡ chain_freed (geo_of l.s) l.initial.img l.k l.initial.b.0
