use Rattle.std.proofs.Common.{arith}
use Rattle.std.proofs.lemmas.Bool.Decides.{nat_tests}
use Rattle.write.specs.Writing.{too_long}
use Rattle.write.proofs.too_long.Goals as goal

pub returns-then-len-gt-END_LIMIT : goal.returns-then-len-gt-END_LIMIT
unfolding too_long
returns-then-len-gt-END_LIMIT c = grind (arith, nat_tests)

pub returns-else-len-gt-END_LIMIT : goal.returns-else-len-gt-END_LIMIT
unfolding too_long
returns-else-len-gt-END_LIMIT c = search
