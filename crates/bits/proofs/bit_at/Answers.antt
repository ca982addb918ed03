use Rattle.bits.specs.Bit.{bit, digit}
use Rattle.bits.proofs.Digits.{shift_and, digit_lt}
use Prim.Native.Nat.{◌+◌, ◌/◌, ◌%◌, ◌^◌}
use mathlib.Core.Path.{◌≡◌}
use lib.Bits.{bit_and}
use lib.ListN.{get_or}
use Rattle.bits.proofs.bit_at.Goals as goal

pub returns : goal.returns
unfolding bit
returns c =
    let a = c.args in
    let e : bit_and (get_or a.s.now (a.from + a.x / 8) 0 / 2 ^ (a.x % 8)) 1 ≡ digit (get_or a.s.now (a.from + a.x / 8) 0) (a.x % 8)
    = shift_and (get_or a.s.now (a.from + a.x / 8) 0) (a.x % 8) in
    record { is = e; small = rw e (digit_lt (get_or a.s.now (a.from + a.x / 8) 0) (a.x % 8)) }
