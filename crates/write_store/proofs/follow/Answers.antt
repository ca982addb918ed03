use mathlib.Core.Path.{◌≡◌}
use Prim.Native.Nat.{suc, ◌+◌, ◌-◌, ◌≤◌, ◌<◌}
use native.Mathlib.Omega.{arith}
use Rattle.write_store.proofs.Loops.{chain_below, chain_next, follow_more, follow_ends}
use Rattle.write_store.proofs.follow.Goals as goal

pub next_addr-b-requires : goal.next_addr-b-requires
next_addr-b-requires c =
    let h : 0 < c.args.k - c.loop.counter = omega arith in
    search chain_below

pub loop-preserved : goal.loop-preserved
loop-preserved c =
    let n : c.args.k - c.loop.counter ≡ suc (c.args.k - (c.loop.counter + 1)) = omega arith in
    (search follow_more, search chain_next)

pub returns : goal.returns
returns c =
    let e : c.args.k - c.loop.counter ≤ 0 = omega arith in
    search follow_ends
