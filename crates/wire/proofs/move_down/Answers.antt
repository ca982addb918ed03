use Prim.Native.Nat.{◌+◌, ◌-◌}
use mathlib.Core.Path.{◌≡◌, ◌∙◌}
use native.Mathlib.Omega.{arith}
use Rattle.wire.proofs.Numbers.{splice_run}
use Rattle.wire.proofs.move_down.Goals as goal

pub returns : goal.returns
returns c =
    let a = c.args in
    let e : a.at + a.gap + a.n - (a.at + a.gap) ≡ a.n = omega arith in
    c.copy_within.ensures.after ∙ rw e (splice_run a.s.now a.s.now a.at (a.at + a.gap) a.n (omega arith))
