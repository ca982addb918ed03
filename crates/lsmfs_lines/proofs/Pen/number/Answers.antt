use native.Mathlib.Omega.{arith}
use Rattle.lsmfs_lines.specs.Line.{digits}
use Rattle.lsmfs_lines.proofs.Words.{number_stored, length-ended}
use Rattle.lsmfs_lines.proofs.Pen.number.Goals as goal

pub returns-clause-stored : goal.returns-clause-stored
returns-clause-stored c =
    let a = c.args in
    let s = a.self.now in (
      number_stored s.out.now _ s.at a.n _ a.end (omega arith) c.width-k.ensures.0 c.put_digits.ensures,
      omega (arith, c.width-k.ensures.0, length-ended (digits a.n) a.end),
    )
