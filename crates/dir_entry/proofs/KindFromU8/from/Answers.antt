use Rattle.dir_entry.specs.Entry.{kind_at}
use Rattle.wire.specs.Pick.{pick}
use borrow.Author.Tests.{eq-eqb, ne_eqb}
use Rattle.dir_entry.proofs.KindFromU8.from.Goals as goal

pub returns-in-0 : goal.returns-in-0
unfolding kind_at pick
returns-in-0 c = rw (eq-eqb _ _ c.in-0.is)

pub returns-in-1 : goal.returns-in-1
unfolding kind_at pick
returns-in-1 c = rw c.in-1.is

pub returns-in_default : goal.returns-in_default
unfolding kind_at pick
returns-in_default c = rw (ne_eqb _ _ c.in_default.in_default-own.rest.0.1, ne_eqb _ _ c.in_default.in_default-own.rest.1)
