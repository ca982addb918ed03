use Rattle.patch.proofs.Aims.{ends-past, ends_in, aim_empty, aim_held, aim_not}
use Rattle.patch.proofs.target_of.Goals as goal

pub returns-then-len-eq0 : goal.returns-then-len-eq0
returns-then-len-eq0 c = search aim_empty

pub returns-in_err-at : goal.returns-in_err-at
returns-in_err-at c = search (aim_not, c.in_err-at.ensures)

pub returns-then-past_end : goal.returns-then-past_end
returns-then-past_end c = search (aim_held, ends-past, c.in_ok-at.ensures)

pub returns : goal.returns
returns c = search (aim_held, ends_in, c.in_ok-at.ensures)
