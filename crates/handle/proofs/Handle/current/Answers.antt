use Rattle.std.proofs.Common.{arith}
use Rattle.std.proofs.lemmas.Bool.Decides.{nat_tests}
use Rattle.handle.specs.Handles.{current}
use Rattle.handle.proofs.Handle.current.Goals as goal

pub returns-then-e-self : goal.returns-then-e-self
unfolding current
returns-then-e-self c = grind (arith, nat_tests)

pub returns-else-e-self : goal.returns-else-e-self
unfolding current
returns-else-e-self c = grind (arith, nat_tests)
