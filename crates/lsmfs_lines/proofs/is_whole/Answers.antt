use native.Mathlib.Omega.{arith}
use lib.ListN.{length}
use Rattle.lsmfs_lines.proofs.Texts.{whole_short, whole_room}
use Rattle.lsmfs_lines.proofs.is_whole.Goals as goal

pub returns-then-left-lt-RECORD : goal.returns-then-left-lt-RECORD
returns-then-left-lt-RECORD c = whole_short c.args.records.now c.args.at (omega arith)

pub returns : goal.returns
returns c =
    let a = c.args in
    rw c.from.ensures (whole_room a.at _ (length a.records.now) (omega arith))
