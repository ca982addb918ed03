use mathlib.Core.Path.{◌≡◌}
use native.Mathlib.Omega.{arith}
use Rattle.bits.proofs.Bits.{ones_none}
use Rattle.bits.proofs.Words.{ones_word}
use Rattle.bits.proofs.count_words.Goals as goal

pub loop-i-init : goal.loop-i-init
loop-i-init c = omega (arith, ones_none c.args.s.now c.args.from)

pub loop-i-preserved : goal.loop-i-preserved
loop-i-preserved c =
    let a = c.args in
    let b = c.loop-i in
    omega (arith, ones_word a.s.now a.from b.i)

pub returns : goal.returns
returns c =
    let e : c.loop-i.i ≡ c.args.k = omega arith in
    rw (← e) c.loop-i.invariant
