use Rattle.dir_entry.proofs.Slots.{place_is}
use Rattle.read_dir.proofs.Names.{at_longer, at_compared}
use Rattle.dir_lookup.proofs.named_at.Goals as goal

pub returns-then-n-name : goal.returns-then-n-name
returns-then-n-name c = search at_longer

pub returns : goal.returns
returns c = search (at_compared, place_is)
