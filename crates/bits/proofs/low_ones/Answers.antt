use mathlib.Core.Path.{sym}
use native.Mathlib.Omega.{arith}
use Rattle.bits.proofs.Words.{low_ones}
use Rattle.bits.proofs.Bits.{ones_none, ones-le}
use Rattle.bits.proofs.low_ones.Goals as goal

pub returns-then-k-eq0 : goal.returns-then-k-eq0
returns-then-k-eq0 c = rw c.if-k-eq0.true (sym (ones_none c.args.s.now c.args.at), omega arith)

pub returns : goal.returns
returns c =
    let a = c.args in
    let e = low_ones a.s.now a.at a.k c.requires.k_bound in
    rw e (omega arith, ones-le a.s.now a.at a.k)
