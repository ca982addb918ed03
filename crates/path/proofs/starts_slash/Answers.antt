use Rattle.path.proofs.Bytes.{starts_is}
use Rattle.path.proofs.starts_slash.Goals as goal

pub returns : goal.returns
returns c = starts_is c.args.s.now c.starts_with.result c.starts_with.ensures.value
