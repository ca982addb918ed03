use Rattle.check_names.proofs.Marks.{fresh-noted, fresh_kept}
use Rattle.check_names.proofs.fresh.Goals as goal

pub returns-then-h-p-clause-filter_after : goal.returns-then-h-p-clause-filter_after
returns-then-h-p-clause-filter_after c = search fresh_kept

pub returns-clause-filter_after : goal.returns-clause-filter_after
returns-clause-filter_after c = search fresh-noted
