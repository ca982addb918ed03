use Rattle.dir_entry.proofs.Slots.{code_offset, code_kind, code_empty, code_long, code_entry}
use Rattle.dir_entry.proofs.DirEntry.decode.Goals as goal

pub returns-then-capacity-offset : goal.returns-then-capacity-offset
returns-then-capacity-offset c = search code_offset

pub returns-then-img-at-gt2 : goal.returns-then-img-at-gt2
returns-then-img-at-gt2 c = search code_kind

pub returns-then-n-eq0 : goal.returns-then-n-eq0
returns-then-n-eq0 c = search code_empty

pub returns-then-capacity-offset-2 : goal.returns-then-capacity-offset-2
returns-then-capacity-offset-2 c = search code_long

pub returns : goal.returns
returns c = search code_entry
