use mathlib.Core.Path.{◌∙◌}
use native.Mathlib.Omega.{arith}
use Rattle.std.proofs.Common.{rules}
use Rattle.lsmfs_lines.proofs.Digits.{digits_32, digits_64}
use Rattle.lsmfs_lines.proofs.Words.{line_short, line_stored, length-ended}
use Rattle.lsmfs_lines.proofs.line.Goals as goal

pub number-requires : goal.number-requires
number-requires c =
    let p = simp length-ended at c.word.ensures.stored.1 in
    omega (arith, c.word.ensures.room, digits_32 c.from.result (omega (arith, c.from.ensures)))

pub number-requires-2 : goal.number-requires-2
number-requires-2 c =
    let a = c.args in
    let p = simp length-ended at c.word.ensures.stored.1 in
    let q = simp length-ended at c.number.ensures.stored.1 in
    omega
    (arith, c.word.ensures.room, c.number.ensures.room, digits_32 c.from.result (omega (arith, c.from.ensures)), digits_64 a.time (omega arith))

pub word-requires-2 : goal.word-requires-2
word-requires-2 c =
    let a = c.args in
    let p = simp length-ended at c.word.ensures.stored.1 in
    let q = simp length-ended at c.number.ensures.stored.1 in
    let t = simp length-ended at c.number-2.ensures.stored.1 in
    omega
    (arith, c.word.ensures.room, c.number.ensures.room, c.number-2.ensures.room, digits_32 c.from.result (omega (arith, c.from.ensures)), digits_64 a.time (omega arith))

pub returns : goal.returns
returns c =
    let a = c.args in
    let hs = digits_32 a.size (omega arith) in
    let ht = digits_64 a.time (omega arith) in
    let s = rw c.from.ensures at c.number.ensures.stored in
    let t = line_stored a.kind a.size a.time a.name.now hs ht a.out.now _ _ _ _ a.to _ _ _ _ _ (omega arith) c.letter.ensures c.word.ensures.stored s c.number-2.ensures.stored c.word-2.ensures.stored in
    record { out_after = search rules ∙ t.0; value = t.1; upper_bound = omega (arith, t.1, line_short a.kind a.size a.time a.name.now hs ht) }
