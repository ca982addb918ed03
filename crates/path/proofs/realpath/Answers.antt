use Rattle.path.proofs.Bytes.{plain_real}
use Rattle.path.proofs.realpath.Goals as goal

pub returns-then-starts_slash : goal.returns-then-starts_slash
returns-then-starts_slash c =
    plain_real c.args.cwd.now c.args.path.now c.args.full.now c.plain.new.full c.plain.result c.starts_slash.result
    c.starts_slash.ensures c.if-starts_slash.true c.plain.ensures
