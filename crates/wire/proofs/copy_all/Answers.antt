use native.Mathlib.Omega.{arith}
use lib.ListN.{length-set}
use lib.Seq.{ext_get_or}
use Rattle.wire.proofs.Numbers.{copied_more}
use Rattle.wire.proofs.copy_all.Goals as goal

pub loop-i-init : goal.loop-i-init
loop-i-init c = (c.requires, λ k h. absurd (omega arith))

pub loop-i-preserved : goal.loop-i-preserved
loop-i-preserved c =
    let l = c.loop-i in
    (simp length-set l.invariant.0, copied_more l.dst c.args.src.now l.i l.invariant.0 (omega arith) l.invariant.1)

pub returns : goal.returns
returns c =
    let l = c.loop-i in
    ext_get_or 0 l.dst c.args.src.now l.invariant.0 (λ k h. l.invariant.1 k (omega arith))
