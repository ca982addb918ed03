use Rattle.own_entry.proofs.Renewals.{renewed_in}
use Rattle.patch_store.proofs.Steps.{first_block, patch_along, patch_is}
use borrow.Author.Rules.{rules}
use Rattle.patch_store.proofs.patch.Goals as goal

pub put_bytes-requires : goal.put_bytes-requires
put_bytes-requires c = record { fit = search rules; size_bound = search first_block; along = search patch_along }

pub returns : goal.returns
returns c = search (patch_is, renewed_in)
