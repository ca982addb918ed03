use Rattle.path.proofs.Ends.{split_whole, split_at}
use Rattle.path.proofs.first_piece.Goals as goal

pub returns-in-Some-clause-value : goal.returns-in-Some-clause-value
returns-in-Some-clause-value c = split_at c.args.way.now c.in-Some.end c.in-Some.ensures.0 c.in-Some.ensures.1 c.in-Some.ensures.2

pub returns-in-None-clause-value : goal.returns-in-None-clause-value
returns-in-None-clause-value c = split_whole c.args.way.now c.in-None.ensures
