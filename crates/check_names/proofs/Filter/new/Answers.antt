use Rattle.check_names.proofs.Marks.{clear_zeros}
use Rattle.check_names.proofs.Filter.new.Goals as goal

pub invariant_of-result : goal.invariant_of-result
invariant_of-result c = record { is_clear = clear_zeros }
