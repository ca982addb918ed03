use Rattle.file_read.proofs.Fetches.{read_fresh, read_refused, read_fetched}
use Rattle.file_read.proofs.read.Goals as goal

pub fetch-requires : goal.fetch-requires
fetch-requires c = search (read_fresh, c.in_ok-check.ensures)

pub returns-in_err-check : goal.returns-in_err-check
returns-in_err-check c = search (read_refused, c.in_err-check.ensures)

pub returns : goal.returns
returns c = search (read_fetched, c.in_ok-check.ensures)
