use Rattle.create.proofs.Sites.{name_empty, name_long}
use Rattle.create.proofs.bad_name.Goals as goal

pub returns-then-is_empty : goal.returns-then-is_empty
returns-then-is_empty c = name_empty c.args.name.now _ c.is_empty.ensures c.if-is_empty.true

pub returns-else-is_empty : goal.returns-else-is_empty
returns-else-is_empty c = name_long c.args.name.now _ c.is_empty.ensures c.if-is_empty.false
