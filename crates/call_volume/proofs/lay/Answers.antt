use Rattle.call_volume.proofs.Answers.{maps_le, size_in, bitmap_in, laid_fit, root_in, laid_used, laid_is}
use Rattle.call_volume.proofs.lay.Goals as goal

pub overflow_sub-d : goal.overflow_sub-d
overflow_sub-d c = search maps_le

pub clear-requires : goal.clear-requires
clear-requires c = record { block_size = search size_in; k_in_bounds = search bitmap_in }

pub take-requires : goal.take-requires
take-requires c = record { fit = search laid_fit; x_bound = search root_in; img_bound = search laid_used }

pub returns : goal.returns
returns c = search laid_is
