use borrow.Author.Rules.{rules}
use Rattle.text.proofs.Rows.{between_two, due_low, due_high, due_in, never_is}
use Rattle.text.proofs.next.Goals as goal
use Rattle.text.proofs.next.Goals.{then-c-d-via-then-c-d, then-c-d-via-else-c-d+then-d-c}

pub returns-then-d-eq0 : goal.returns-then-d-eq0
returns-then-d-eq0 c = search (between_two, rules)

pub returns-then-c-d : goal.returns-then-c-d
returns-then-c-d c =
    elim c.then-c-d.branch [
      | then-c-d-via-then-c-d w ↦ due_low c.args.d c.args.c _ never_is c.if-d-eq0.false w.if-c-d.true
      | then-c-d-via-else-c-d+then-d-c w ↦ due_high c.args.d c.args.c _ never_is c.if-d-eq0.false w.if-d-c.true
    ]

pub returns : goal.returns
returns c = due_in c.args.d c.args.c _ c.awaits.ensures c.if-d-eq0.false c.if-c-d.false c.if-d-c.false
