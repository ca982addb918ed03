use Rattle.handle.proofs.Seeks.{seek_stale, seek_aimed}
use Rattle.handle.proofs.Handle.aim.Goals as goal

pub returns-then-stale : goal.returns-then-stale
returns-then-stale c = search seek_stale

pub returns : goal.returns
returns c = search seek_aimed
