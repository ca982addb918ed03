use Prim.Native.Nat.{◌*◌, ◌/◌, ◌%◌}
use mathlib.Core.Path.{◌≡◌, ap, ◌∙◌}
use native.Mathlib.Omega.{arith}
use lib.Bits.{bit_or, or_shifted_r}
use Rattle.name_filter.proofs.turn.Goals as goal

pub returns : goal.returns
returns c =
    let h = c.args.h in
    let e : h * 16777216 % 4294967296 ≡ h % 256 * 16777216 = omega arith in
    let f = or_shifted_r (h % 256) 24 (h / 256) (omega (arith, c.ranges.h.fits)) in
    c.rotate_right.ensures ∙ ap (bit_or (h / 256)) e ∙ omega (arith, f)
