use borrow.Author.Rules.{rules}
use Rattle.text.proofs.Along.{text_plain, text_walked, rest_is}
use Rattle.text.proofs.text.Goals as goal

pub returns-then-n-s : goal.returns-then-n-s
returns-then-n-s c = search (text_plain, rules)

pub returns-else-n-s : goal.returns-else-n-s
returns-else-n-s c =
    let s = c.args.s.now in
    text_walked s _ _ c.plain-n.ensures _ (rw rest_is at c.walked.ensures)
