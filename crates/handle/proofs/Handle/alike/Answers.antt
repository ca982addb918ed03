use Rattle.dir_entry.proofs.Slots.{place_is}
use Rattle.handle.proofs.Entries.{alike_by_addr, alike_by_length}
use Rattle.handle.proofs.Handle.alike.Goals as goal

pub returns-then-n-self : goal.returns-then-n-self
returns-then-n-self c = search (alike_by_addr, place_is)

pub returns-else-n-self : goal.returns-else-n-self
returns-else-n-self c = search alike_by_length
