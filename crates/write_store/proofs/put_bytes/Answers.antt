use Rattle.write_store.proofs.Loops.{put_along, put_is}
use Rattle.write_store.proofs.put_bytes.Goals as goal

pub pour-requires-clause-along : goal.pour-requires-clause-along
pour-requires-clause-along c = search put_along

pub returns : goal.returns
returns c = search put_is
