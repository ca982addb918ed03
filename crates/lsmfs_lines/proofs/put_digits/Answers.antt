use native.Mathlib.Omega.{arith}
use Rattle.lsmfs_lines.proofs.Words.{left_all, left_less}
use Rattle.lsmfs_lines.proofs.put_digits.Goals as goal

pub loop-i-init : goal.loop-i-init
loop-i-init c = left_all c.args.out.now c.args.at c.args.n _ (omega (arith, c.requires.k_value)) (omega (arith, c.requires.k_in_bounds))

pub loop-i-preserved : goal.loop-i-preserved
loop-i-preserved c =
    let l = c.loop-i in
    rw c.digit.ensures (left_less c.args.out.now l.out c.args.at c.args.n l.rest _ _ _ (omega arith) (omega arith) (omega arith) l.invariant)
