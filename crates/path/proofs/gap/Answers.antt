use Rattle.path.proofs.Bytes.{joint_none, joint_slash}
use Rattle.path.proofs.gap.Goals as goal

pub returns-then-ends_with-clause-value : goal.returns-then-ends_with-clause-value
returns-then-ends_with-clause-value c = joint_none c.args.cwd.now c.ends_with.result c.ends_with.ensures.value c.if-ends_with.true

pub returns-else-ends_with-clause-value : goal.returns-else-ends_with-clause-value
returns-else-ends_with-clause-value c = joint_slash c.args.cwd.now c.ends_with.result c.ends_with.ensures.value c.if-ends_with.false
