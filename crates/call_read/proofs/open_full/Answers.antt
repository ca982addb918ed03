use Prim.Native.Nat.{ℕ, ◌<◌}
use lib.ListN.{get_or}
use native.Mathlib.Omega.{arith}
use borrow.Author.Rules.{rules}
use Rattle.limits.proofs.Passed.{err_is}
use Rattle.call_read.proofs.Opening.{open_lost, found_short, open_other, open_large_no, open_file}
use Rattle.call_read.proofs.open_full.Goals as goal

pub returns-in_err-found : goal.returns-in_err-found
returns-in_err-found c = rw (err_is c.from_residual.result c.from_residual.ensures.1) (open_lost _ _ _ _ c.in_err-found.ensures)

pub invariant_of-new : goal.invariant_of-new
invariant_of-new c =
    let bytes : (i : ℕ) → get_or c.args.img.now i 0 < 256 = λ i. omega (arith, c.type_inv.img i) in
    record { short = found_short _ _ _ bytes _ c.in_ok-found.ensures _ c.parts_of.ensures.name_is }

pub returns-in-Dir : goal.returns-in-Dir
returns-in-Dir c = open_other _ _ _ _ c.in_ok-found.ensures (search (rules, c.in-Dir.is))

pub returns-in-File : goal.returns-in-File
returns-in-File c = open_large_no _ _ _ _ c.in_ok-found.ensures c.in-File.is (search rules)

pub returns-in-File-2 : goal.returns-in-File-2
returns-in-File-2 c = open_file _ _ _ _ c.in_ok-found.ensures c.in-File-2.is (search rules) _ c.parts_of.ensures.name_is _ c.new.ensures
