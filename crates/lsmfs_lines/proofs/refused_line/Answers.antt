use mathlib.Core.Path.{◌∙◌}
use native.Mathlib.Omega.{arith}
use Rattle.std.proofs.Common.{rules}
use Rattle.lsmfs_lines.proofs.Digits.{digits_32}
use Rattle.lsmfs_lines.proofs.Words.{refused_stored, length-ended}
use Rattle.lsmfs_lines.proofs.refused_line.Goals as goal

pub number-requires : goal.number-requires
number-requires c =
    let p = simp length-ended at c.word.ensures.stored.1 in
    omega (arith, c.word.ensures.room, digits_32 c.from.result (omega (arith, c.from.ensures)))

pub returns : goal.returns
returns c =
    let a = c.args in
    let s = rw c.from.ensures at c.number.ensures.stored in
    let r = refused_stored a.out.now _ _ _ _ a.n (omega arith) (digits_32 a.n (omega arith)) c.word.ensures.stored s in
    record { out_after = search rules ∙ r.0; value = r.1 }
