use Rattle.write_store.proofs.Loops.{grow_addr, grow_is, grow_fresh}
use Rattle.write_store.proofs.grow.Goals as goal

pub addr-requires : goal.addr-requires
addr-requires c = search grow_addr

pub returns : goal.returns
returns c = (search grow_is, search grow_fresh)
