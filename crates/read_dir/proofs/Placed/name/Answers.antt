use Rattle.dir_entry.proofs.Slots.{place_is}
use Rattle.read_dir.proofs.Names.{name_part}
use Rattle.read_dir.proofs.Placed.name.Goals as goal

pub returns : goal.returns
returns c = search (name_part, place_is)
