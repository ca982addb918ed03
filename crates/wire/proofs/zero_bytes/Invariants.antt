use Rattle.wire.proofs.Zeros.{Left}
use Rattle.wire.proofs.zero_bytes.Given as goal

abbrev pub invariant-loop-b : goal.invariant-loop-b
invariant-loop-b l = Left l.s l.at l.n l.ok l.b-index
