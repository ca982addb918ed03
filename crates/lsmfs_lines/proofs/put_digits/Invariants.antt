use Prim.Native.Nat.{◌-◌}
use Rattle.lsmfs_lines.proofs.Words.{Left}
use Rattle.lsmfs_lines.proofs.put_digits.Given as goal

abbrev pub invariant-loop-i : goal.invariant-loop-i
invariant-loop-i l = Left l.initial.out l.out l.at l.n l.rest (l.k - l.i)
