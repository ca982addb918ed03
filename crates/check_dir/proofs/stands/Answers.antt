use Rattle.check_dir.proofs.Holds.{looks_empty, looks_zeros, looks_bad, looks_more, entry_fits, entry_over}
use Rattle.check_dir.proofs.stands.Goals as goal

pub passes-requires-clause-len_bound : goal.passes-requires-clause-len_bound
passes-requires-clause-len_bound c = search entry_fits

pub returns-then-not-passes : goal.returns-then-not-passes
returns-then-not-passes c = search looks_bad

pub loop-e-preserved : goal.loop-e-preserved
loop-e-preserved c = (search entry_over, search looks_more)

pub returns-then-o-eq0 : goal.returns-then-o-eq0
returns-then-o-eq0 c = search looks_empty

pub returns : goal.returns
returns c = search (looks_zeros, c.else-later.either)
