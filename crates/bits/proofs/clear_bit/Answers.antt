use native.Mathlib.Omega.{arith}
use Rattle.bits.proofs.Bits.{bit_cleared}
use Rattle.bits.proofs.clear_bit.Goals as goal

pub returns : goal.returns
returns c = let a = c.args in bit_cleared a.s.now a.from a.x (omega arith)
