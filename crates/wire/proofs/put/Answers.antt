use Prim.Native.Nat.{◌+◌, ◌-◌}
use mathlib.Core.Path.{◌≡◌, sym}
use native.Mathlib.Nat.{pow-suc, div-one, div-div-eq-div-mul, add-zero}
use native.Mathlib.Numerals.{one-add}
use native.Mathlib.Omega.{arith}
use Rattle.wire.specs.Be.{bytes}
use Rattle.wire.proofs.Numbers.{splice-nil, put_more}
use Rattle.wire.proofs.put.Goals as goal

pub loop-i-init : goal.loop-i-init
unfolding bytes
loop-i-init c =
    let z : c.args.n - c.args.n ≡ 0 = omega arith in
    (rw z (sym (div-one c.args.v)), rw z (sym (splice-nil c.args.s.now (c.args.at + c.args.n))))

pub loop-i-preserved : goal.loop-i-preserved
loop-i-preserved c =
    let a = c.args in
    let i = c.loop-i.i in
    let j = i - 1 in
    let m = a.n - i in
    let e : a.n - j ≡ 1 + m = omega arith in
    let q : a.at + i ≡ a.at + j + 1 = omega arith in
    let w = c.loop-i.invariant.0 in
    let t = put_more a.s.now (a.at + j) m a.v (omega arith) in
    (rw (w, e, one-add, pow-suc, ← div-div-eq-div-mul), rw (c.loop-i.invariant.1, w, e, q) t)

pub returns : goal.returns
returns c =
    let a = c.args in
    let z : c.loop-i.i ≡ 0 = omega arith in
    let k : a.n - 0 ≡ a.n = omega arith in
    rw (z, add-zero, k) at c.loop-i.invariant.1
