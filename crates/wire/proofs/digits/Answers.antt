use Prim.Native.Nat.{ℕ, suc, ◌+◌, ◌*◌, ◌^◌, ◌≤◌, ◌<◌}
use mathlib.Core.Path.{◌≡◌}
use mathlib.Core.List.{List}
use native.Mathlib.Nat.{pow-suc, pow-le-pow_right}
use native.Mathlib.Numerals.{add-one}
use native.Mathlib.Omega.{arith}
use lib.Dec.{lit<}
use lib.ListN.{length, get_or}
use Rattle.std.specs.List.{between}
use Rattle.std.proofs.lemmas.List.Edits.{length-between, get_or-between}
use Rattle.wire.proofs.Numbers.{be-none, be-more}
use Rattle.wire.proofs.digits.Goals as goal

-- where i is below 8, 256 times a number below 256 ^ i fits
room : (i : ℕ) → i < 8 → 256 ^ i * 256 ≤ 2 ^ 64
room i h = rw (← pow-suc 256 i) (pow-le-pow_right (lit< tt) {i = suc i} {j = 8} h)

-- the index is below n
below : (s : List ℕ) (at n i : ℕ) → at + n ≤ length s → i < length (between at (at + n) s) → i < n
below s at n i h q = omega (arith, length-between s at (at + n) h)

pub loop-b-init : goal.loop-b-init
loop-b-init c = omega (arith, be-none c.args.s.now c.args.at)

pub overflow_mul-v : goal.overflow_mul-v
overflow_mul-v c =
    let a = c.args in
    let i = c.loop-b.b-index in
    let q = below a.s.now a.at a.n i c.requires.n_in_bounds c.loop-b-test.true in
    omega (arith, room i (omega arith))

pub overflow_add-v : goal.overflow_add-v
overflow_add-v c =
    let a = c.args in
    let i = c.loop-b.b-index in
    let q = below a.s.now a.at a.n i c.requires.n_in_bounds c.loop-b-test.true in
    omega (arith, room i (omega arith), get_or-between a.s.now a.at (a.at + a.n) i 0 (omega arith), c.type_inv.s (a.at + i))

pub loop-b-preserved : goal.loop-b-preserved
loop-b-preserved c =
    let a = c.args in
    let i = c.loop-b.b-index in
    let q = below a.s.now a.at a.n i c.requires.n_in_bounds c.loop-b-test.true in
    let e : 256 ^ (i + 1) ≡ 256 ^ i * 256 = rw (add-one, pow-suc) in
    let f : get_or a.s.now (a.at + i) 0 < 256 = (c.type_inv.s (a.at + i)).fits in
    omega (arith, be-more i a.s.now a.at, get_or-between a.s.now a.at (a.at + a.n) i 0 (omega arith))

pub returns : goal.returns
returns c =
    let a = c.args in
    let e : c.loop-b.b-index ≡ a.n = omega (arith, length-between a.s.now a.at (a.at + a.n) c.requires.n_in_bounds) in
    rw (← e) (c.loop-b.invariant.0, c.loop-b.invariant.1)
