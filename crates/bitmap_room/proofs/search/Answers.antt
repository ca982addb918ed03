use borrow.Author.Rules.{rules}
use Rattle.bitmap_room.proofs.Clear.{none_asked, clear_none, found, missed}
use Rattle.bitmap_room.proofs.search.Goals as goal

pub returns-then-count-eq0 : goal.returns-then-count-eq0
returns-then-count-eq0 c = search (none_asked, rules)

pub loop-i-init : goal.loop-i-init
loop-i-init c = search (clear_none, rules)

pub returns-then-left-p : goal.returns-then-left-p
returns-then-left-p c =
    let e = c.next_piece-p.ensures in
    let inv = c.loop-i.invariant in
    search (found, e.1, e.2, e.3, inv.1, inv.2, c.if-left-p.true)

pub returns : goal.returns
returns c = search (missed, rules)
