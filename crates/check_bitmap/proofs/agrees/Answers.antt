use mathlib.Core.Path.{sym, ◌∙◌}
use borrow.Author.Rules.{rules}
use Rattle.check_bitmap.proofs.Answers.{marks_in, marks_differ, marks_bare, past_in, past_image, marks_tested}
use Rattle.super_block.proofs.Fits.{area_inside}
use Rattle.wire.proofs.Picks.{not_both}
use Rattle.check_bitmap.proofs.agrees.Goals as goal
use Rattle.check_bitmap.proofs.agrees.Goals.{then-same_bytes, else-same_bytes}

pub mark_bytes-m-requires-clause-area_le_blocks : goal.mark_bytes-m-requires-clause-area_le_blocks
mark_bytes-m-requires-clause-area_le_blocks c = search (area_inside, rules)

pub same_bytes-requires : goal.same_bytes-requires
same_bytes-requires c = search (marks_in, rules)

pub returns-else-zero_bytes : goal.returns-else-zero_bytes
returns-else-zero_bytes c =
    elim c.if-same_bytes.branch [
      | then-same_bytes w ↦ let y = sym w.value-is ∙ c.if-zero_bytes.false in c.if-zero_bytes.false ∙ search (marks_bare, w.if-same_bytes.true, w.zero_bytes.ensures, y, rules)
      | else-same_bytes w ↦ c.if-zero_bytes.false ∙ search (marks_differ, w.if-same_bytes.false, rules)
    ]

pub overflow_sub-end : goal.overflow_sub-end
overflow_sub-end c = search (past_in, rules)

pub zero_bytes-requires-then-zero_bytes : goal.zero_bytes-requires-then-zero_bytes
zero_bytes-requires-then-zero_bytes c = search (past_image, rules)

pub returns-then-zero_bytes : goal.returns-then-zero_bytes
returns-then-zero_bytes c =
    elim c.if-same_bytes.branch [
      | then-same_bytes w ↦ let y = sym w.value-is ∙ c.if-zero_bytes.true in search (marks_tested, w.if-same_bytes.true, w.zero_bytes.ensures, y, rules)
      | else-same_bytes w ↦ absurd (not_both c.if-zero_bytes.true (w.value-is ∙ w.if-same_bytes.false))
    ]
