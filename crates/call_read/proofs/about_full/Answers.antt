use Prim.Native.Nat.{ℕ, ◌<◌}
use lib.ListN.{get_or}
use native.Mathlib.Omega.{arith}
use Rattle.limits.proofs.Passed.{err_is}
use Rattle.call_read.proofs.Opening.{info_lost, found_short, abouted}
use Rattle.call_read.proofs.about_full.Goals as goal

pub returns-in_err-e : goal.returns-in_err-e
returns-in_err-e c = rw (err_is c.from_residual.result c.from_residual.ensures.1) (info_lost _ _ _ _ c.in_err-e.ensures)

pub invariant_of-name_array : goal.invariant_of-name_array
invariant_of-name_array c =
    let bytes : (i : ℕ) → get_or c.args.img.now i 0 < 256 = λ i. omega (arith, c.type_inv.img i) in
    record { short = found_short _ _ _ bytes _ c.in_ok-e.ensures _ c.parts_of.ensures.name_is }

pub returns : goal.returns
returns c = abouted _ _ _ _ c.in_ok-e.ensures _ _ c.parts_of.ensures.name_is c.name_array.ensures
