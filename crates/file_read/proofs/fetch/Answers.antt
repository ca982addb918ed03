use Rattle.file_read.proofs.Fetches.{fetch_place, fetch_end, fetch_fits, fetch_lost, fetch_given}
use Rattle.file_read.proofs.fetch.Goals as goal

pub count-k-requires : goal.count-k-requires
count-k-requires c = search fetch_place

pub begin-requires : goal.begin-requires
begin-requires c = search fetch_end

pub overflow_add-handle : goal.overflow_add-handle
overflow_add-handle c = search fetch_fits

pub returns-in_err-b : goal.returns-in_err-b
returns-in_err-b c = search (fetch_lost, c.in_err-b.ensures)

pub returns : goal.returns
returns c = search (fetch_given, c.in_ok-b.ensures)
