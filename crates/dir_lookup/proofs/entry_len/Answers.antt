use Rattle.dir_entry.proofs.Slots.{place_is}
use Rattle.read_dir.proofs.Passes.{len_offset, len_kind, len_long, len_is}
use Rattle.dir_lookup.proofs.entry_len.Goals as goal

pub returns-then-capacity-o : goal.returns-then-capacity-o
returns-then-capacity-o c = search len_offset

pub returns-then-img-at-gt2 : goal.returns-then-img-at-gt2
returns-then-img-at-gt2 c = search (len_kind, place_is)

pub returns-then-capacity-o-2 : goal.returns-then-capacity-o-2
returns-then-capacity-o-2 c = search (len_long, place_is)

pub returns : goal.returns
returns c = search (len_is, place_is)
