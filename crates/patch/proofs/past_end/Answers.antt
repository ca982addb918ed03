use Rattle.std.proofs.Common.{arith}
use Rattle.std.proofs.lemmas.Bool.Decides.{nat_tests}
use Rattle.patch.specs.Patching.{past_end}
use Rattle.patch.proofs.past_end.Goals as goal

pub returns-then-size-len : goal.returns-then-size-len
unfolding past_end
returns-then-size-len c = grind (arith, nat_tests)

pub returns-else-size-len : goal.returns-else-size-len
unfolding past_end
returns-else-size-len c = search
