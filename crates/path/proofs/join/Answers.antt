use Rattle.path.proofs.Bytes.{join_is}
use Rattle.path.proofs.join.Goals as goal

pub returns : goal.returns
returns c =
    join_is c.args.full.now c.args.cwd.now c.args.gap.now c.args.path.now c.split_at_mut-first.result.1.now
    c.copy_all.new.dst c.copy_all-2.new.dst c.copy_all-3.new.dst
    c.split_at_mut-first.ensures.back c.copy_all.ensures c.copy_all-2.ensures c.copy_all-3.ensures
