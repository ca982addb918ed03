use Rattle.mfs_c.proofs.Told.{code_refused}
use Rattle.mfs_c.proofs.answer_of.Goals as goal

pub returns-in-Err : goal.returns-in-Err
returns-in-Err c = search code_refused
