use Rattle.delete_store.proofs.Answers.{cut_is}
use Rattle.delete_store.proofs.cut_out.Goals as goal

pub returns : goal.returns
returns c = search cut_is
