use Rattle.write_store.proofs.Loops.{resize_old, resize_new, grows_low, grows_high, grows_is, stays_is, cuts_high, cuts_is}
use Rattle.write_store.proofs.resize.Goals as goal

pub returns-then-old-new : goal.returns-then-old-new
returns-then-old-new c = search stays_is

pub follow-last-requires : goal.follow-last-requires
follow-last-requires c = search resize_old

pub extend-requires-clause-s_bound : goal.extend-requires-clause-s_bound
extend-requires-clause-s_bound c = (search grows_low, search grows_high)

pub follow-last-requires-else-old-new-2 : goal.follow-last-requires-else-old-new-2
follow-last-requires-else-old-new-2 c = search resize_new

pub cut-requires-clause-last_lt_blocks : goal.cut-requires-clause-last_lt_blocks
cut-requires-clause-last_lt_blocks c = search cuts_high

pub returns-then-old-new-2 : goal.returns-then-old-new-2
returns-then-old-new-2 c = search grows_is

pub returns-else-old-new-2 : goal.returns-else-old-new-2
returns-else-old-new-2 c = search cuts_is
