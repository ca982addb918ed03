use Rattle.std.proofs.Common.{arith}
use Rattle.std.proofs.lemmas.Bool.Decides.{nat_tests}
use Rattle.handle.specs.Handles.{stale_fields}
use Rattle.handle.proofs.Handle.stale.Goals as goal

pub returns-then-self-eq0 : goal.returns-then-self-eq0
unfolding stale_fields
returns-then-self-eq0 c = grind (arith, nat_tests)

pub returns-else-self-eq0 : goal.returns-else-self-eq0
unfolding stale_fields
returns-else-self-eq0 c = grind (arith, nat_tests)
