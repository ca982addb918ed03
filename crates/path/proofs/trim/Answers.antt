use Rattle.path.proofs.Ends.{trim_short, trim_all, trim_last}
use Rattle.path.proofs.trim.Goals as goal

pub returns-then-path-le1-clause-value : goal.returns-then-path-le1-clause-value
returns-then-path-le1-clause-value c = trim_short c.args.path.now c.if-path-le1.true

pub returns-in-Some-clause-value : goal.returns-in-Some-clause-value
returns-in-Some-clause-value c =
    trim_last c.args.path.now c.in-Some.last c.if-path-le1.false c.in-Some.ensures.0 c.in-Some.ensures.1 c.in-Some.ensures.2

pub returns-in-None-clause-value : goal.returns-in-None-clause-value
returns-in-None-clause-value c = trim_all c.args.path.now c.if-path-le1.false c.in-None.ensures
