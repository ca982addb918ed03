use Rattle.check_names.proofs.Parts.{tested_all, tested_not}
use Rattle.check_names.proofs.distinct.Goals as goal

pub returns-then-not-distinct_in : goal.returns-then-not-distinct_in
returns-then-not-distinct_in c = search tested_not

pub returns : goal.returns
returns c = search tested_all
