use Rattle.handle.proofs.Handles.{new_is}
use Rattle.handle.proofs.Handle.new.Goals as goal

pub returns : goal.returns
returns c = search new_is
