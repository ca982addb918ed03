use borrow.Author.Rules.{rules}
use Rattle.text.proofs.Rows.{low_control, one_byte, no_first, two_bytes, after_E0, after_ED, three_bytes, after_F0, four_bytes, after_F4, above_all, never_is}
use Rattle.text.proofs.first.Goals as goal

pub returns-then-c-lt32 : goal.returns-then-c-lt32
returns-then-c-lt32 c = search (low_control, never_is, rules)

pub returns-then-c-lt-DELETE : goal.returns-then-c-lt-DELETE
returns-then-c-lt-DELETE c = search (one_byte, rules)

pub returns-in-224 : goal.returns-in-224
returns-in-224 c = search (after_E0, rules)

pub returns-in-237 : goal.returns-in-237
returns-in-237 c = search (after_ED, rules)

pub returns-in-240 : goal.returns-in-240
returns-in-240 c = search (after_F0, rules)

pub returns-in-244 : goal.returns-in-244
returns-in-244 c = search (after_F4, rules)

pub returns-in-194-to-223 : goal.returns-in-194-to-223
returns-in-194-to-223 c = search (two_bytes, rules)

pub returns-in-225-to-239 : goal.returns-in-225-to-239
returns-in-225-to-239 c = search (three_bytes, rules)

pub returns-in-241-to-243 : goal.returns-in-241-to-243
returns-in-241-to-243 c = search (four_bytes, rules)

pub returns-in_default : goal.returns-in_default
returns-in_default c = search (no_first, never_is, rules)

pub returns-in_default-2 : goal.returns-in_default-2
returns-in_default-2 c = search (above_all, never_is, rules)
