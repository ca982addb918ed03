use Rattle.handle.proofs.Handles.{name_put}
use Rattle.handle.proofs.name_array.Goals as goal

pub returns : goal.returns
returns c = name_put c.args.name.bytes.now c.copy_from_slice.new.self c.copy_from_slice.ensures.after
