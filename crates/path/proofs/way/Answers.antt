use Rattle.path.proofs.Bytes.{way_root, way_all, way_first, rest_none, rest_first}
use Rattle.path.proofs.way.Goals as goal

pub returns-then-is_root-clause-value : goal.returns-then-is_root-clause-value
returns-then-is_root-clause-value c = way_root c.args.dir.now c.is_root.result c.is_root.ensures c.if-is_root.true

pub returns-in-Some-clause-value : goal.returns-in-Some-clause-value
returns-in-Some-clause-value c =
    way_first c.args.dir.now c.is_root.result c.is_root.ensures c.in-Some.first c.if-is_root.false
    c.in-Some.ensures.0 c.in-Some.ensures.1 c.in-Some.ensures.2

pub returns-in-None-clause-value : goal.returns-in-None-clause-value
returns-in-None-clause-value c = way_all c.args.dir.now c.is_root.result c.is_root.ensures c.if-is_root.false c.in-None.ensures

pub returns-in-Some-clause-rest : goal.returns-in-Some-clause-rest
returns-in-Some-clause-rest c = rest_first c.args.dir.now c.in-Some.first c.in-Some.ensures.0 c.in-Some.ensures.1 c.in-Some.ensures.2

pub returns-in-None-clause-rest : goal.returns-in-None-clause-rest
returns-in-None-clause-rest c = rest_none c.args.dir.now c.in-None.ensures
