use native.Mathlib.Omega.{arith}
use Rattle.lsmfs_lines.proofs.Words.{word_stored, length-ended}
use Rattle.lsmfs_lines.proofs.Pen.word.Goals as goal

pub returns-clause-stored : goal.returns-clause-stored
returns-clause-stored c =
    let a = c.args in
    let s = a.self.now in
    (word_stored s.out.now _ s.at a.word.now a.end (omega arith) c.copy.ensures, omega (arith, length-ended a.word.now a.end))
