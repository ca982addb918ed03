use mathlib.Core.Path.{◌≡◌}
use Prim.Native.Nat.{suc, ◌+◌, ◌-◌, ◌≤◌, ◌<◌}
use native.Mathlib.Omega.{arith}
use Rattle.block.proofs.Blocks.{linked_inside}
use Rattle.write_store.proofs.Loops.{chain_below, chain_inside, pour_more, pour_along, pour_ends}
use Rattle.write_store.proofs.pour.Goals as goal

pub next_addr-then-requires : goal.next_addr-then-requires
next_addr-then-requires c =
    let h : 0 < c.args.k - c.loop.counter = omega arith in
    search chain_below

pub put_run-rest-requires-clause-size_in_bounds : goal.put_run-rest-requires-clause-size_in_bounds
put_run-rest-requires-clause-size_in_bounds c =
    let h : 0 < c.args.k - c.loop.counter = omega arith in
    search (linked_inside, chain_inside)

pub loop-preserved : goal.loop-preserved
loop-preserved c =
    let n : c.args.k - c.loop.counter ≡ suc (c.args.k - (c.loop.counter + 1)) = omega arith in
    (omega (arith, c.requires.fit.known.least), omega arith, search pour_more, search pour_along)

pub returns : goal.returns
returns c =
    let e : c.args.k - c.loop.counter ≤ 0 = omega arith in
    search pour_ends
