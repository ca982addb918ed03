use Rattle.dir_entry.specs.Entry.{entry_at}
use Rattle.dir_entry.proofs.DirEntry.read.Goals as goal

pub returns : goal.returns
unfolding entry_at
returns c = cc
