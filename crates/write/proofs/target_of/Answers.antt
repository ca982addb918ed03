use borrow.Author.Rules.{rules}
use Rattle.write.proofs.Aims.{long_fits, len_fits, fits_long, fits_full, fits_in, aim_empty, aim_held, aim_not}
use Rattle.write.proofs.target_of.Goals as goal

pub returns-then-len-eq0 : goal.returns-then-len-eq0
returns-then-len-eq0 c = search aim_empty

pub returns-in_err-at : goal.returns-in_err-at
returns-in_err-at c = search (aim_not, c.in_err-at.ensures)

pub returns-then-too_long : goal.returns-then-too_long
returns-then-too_long c = search (aim_held, fits_long, c.in_ok-at.ensures)

pub overflow_cast-len : goal.overflow_cast-len
overflow_cast-len c = search (len_fits, rules)

pub no_room-requires : goal.no_room-requires
no_room-requires c = search long_fits

pub returns-then-no_room : goal.returns-then-no_room
returns-then-no_room c = search (aim_held, fits_full, c.in_ok-at.ensures)

pub returns : goal.returns
returns c = search (aim_held, fits_in, c.in_ok-at.ensures)
