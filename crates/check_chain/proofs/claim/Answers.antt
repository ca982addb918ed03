use borrow.Author.Rules.{rules}
use Rattle.check_chain.proofs.Claims.{no_outside, no_taken, yes_free}
use Rattle.check_chain.proofs.claim.Goals as goal

pub returns-then-a-d-clause-marks_answer : goal.returns-then-a-d-clause-marks_answer
returns-then-a-d-clause-marks_answer c = no_outside _ _ _ c.then-a-d.either

pub returns-then-bit_at-eq1-clause-marks_answer : goal.returns-then-bit_at-eq1-clause-marks_answer
returns-then-bit_at-eq1-clause-marks_answer c = search (no_taken, rules)

pub returns-clause-marks_answer : goal.returns-clause-marks_answer
returns-clause-marks_answer c = search (yes_free, rules)
