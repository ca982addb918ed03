use native.Mathlib.Omega.{arith}
use Rattle.lsmfs_lines.proofs.Digits.{length_last, digits_between}
use Rattle.lsmfs_lines.proofs.width.Goals as goal

pub returns-in-Some : goal.returns-in-Some
returns-in-Some c =
    let e = c.in-Some.ensures in
    (omega (arith, digits_between c.in-Some.k c.args.n e.power_le e.next_power_gt), omega (arith, e.bound))

pub returns-in-None : goal.returns-in-None
returns-in-None c = (omega (arith, length_last c.args.n (omega (arith, c.in-None.ensures.none))), omega arith)
