use Rattle.path.proofs.Bytes.{plain_good}
use Rattle.path.proofs.plain.Goals as goal

pub returns : goal.returns
returns c =
    plain_good c.args.full.now c.args.path.now c.copy_all.new.dst c.text.result
    c.text.ensures c.if-not-text.false c.if-n-gt-PATH_LIMIT.false c.copy_all.ensures
