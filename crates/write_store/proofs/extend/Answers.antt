use mathlib.Core.Path.{◌≡◌}
use Prim.Native.Nat.{suc, ◌+◌, ◌-◌, ◌≤◌}
use native.Mathlib.Omega.{arith}
use Rattle.write_store.proofs.Loops.{extend_addr, extend_index, extend_fit, extend_long, extend_room, extend_set, extend_low, extend_high, extend_more, extend_ends}
use Rattle.write_store.proofs.extend.Goals as goal

pub addr-b-requires : goal.addr-b-requires
addr-b-requires c =
    let n : c.args.k - c.loop.counter ≡ suc (c.args.k - (c.loop.counter + 1)) = omega arith in
    search extend_addr

pub overflow_add-from : goal.overflow_add-from
overflow_add-from c =
    let n : c.args.k - c.loop.counter ≡ suc (c.args.k - (c.loop.counter + 1)) = omega arith in
    search extend_index

pub loop-preserved : goal.loop-preserved
loop-preserved c =
    let n : c.args.k - c.loop.counter ≡ suc (c.args.k - (c.loop.counter + 1)) = omega arith in
    (search extend_fit, search extend_room, (search extend_low, search extend_high), search extend_long, search extend_more, search extend_set)

pub returns : goal.returns
returns c =
    let e : c.args.k - c.loop.counter ≤ 0 = omega arith in
    search extend_ends
