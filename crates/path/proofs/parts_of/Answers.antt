use Rattle.path.proofs.Ends.{dir_none, name_whole, dir_first, dir_later, name_after, name_first}
use Rattle.path.proofs.parts_of.Goals as goal

pub returns-in-Some-eq0-clause-dir_is : goal.returns-in-Some-eq0-clause-dir_is
returns-in-Some-eq0-clause-dir_is c =
    dir_first c.args.full.now c.trim-path.result.now c.trim-path.ensures.value c.in-Some-eq0.field-0
    c.in-Some-eq0.ensures.0 c.in-Some-eq0.ensures.1 c.in-Some-eq0.ensures.2 c.in-Some-eq0.field-0-test

pub returns-in-Some-eq0-clause-name_is : goal.returns-in-Some-eq0-clause-name_is
returns-in-Some-eq0-clause-name_is c =
    name_first c.args.full.now c.trim-path.result.now c.trim-path.ensures.value c.in-Some-eq0.field-0
    c.in-Some-eq0.ensures.0 c.in-Some-eq0.ensures.1 c.in-Some-eq0.ensures.2 c.in-Some-eq0.field-0-test

pub returns-in-Some-clause-dir_is : goal.returns-in-Some-clause-dir_is
returns-in-Some-clause-dir_is c =
    dir_later c.args.full.now c.trim-path.result.now c.trim-path.ensures.value c.in-Some.last
    c.in-Some.ensures.0 c.in-Some.ensures.1 c.in-Some.ensures.2 c.in-Some.last-test.1

pub returns-in-Some-clause-name_is : goal.returns-in-Some-clause-name_is
returns-in-Some-clause-name_is c =
    name_after c.args.full.now c.trim-path.result.now c.trim-path.ensures.value c.in-Some.last
    c.in-Some.ensures.0 c.in-Some.ensures.1 c.in-Some.ensures.2

pub returns-in-None-clause-dir_is : goal.returns-in-None-clause-dir_is
returns-in-None-clause-dir_is c = dir_none c.args.full.now c.trim-path.result.now c.trim-path.ensures.value c.in-None.ensures

pub returns-in-None-clause-name_is : goal.returns-in-None-clause-name_is
returns-in-None-clause-name_is c = name_whole c.args.full.now c.trim-path.result.now c.trim-path.ensures.value c.in-None.ensures
