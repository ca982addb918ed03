use Rattle.check_volume.proofs.Decides.{none-marked, again_zero}
use Rattle.super_block.proofs.Fits.{area_inside}
use Rattle.check_volume.proofs.check.Goals as goal

pub mark_bytes-m-requires-clause-area_le_blocks : goal.mark_bytes-m-requires-clause-area_le_blocks
mark_bytes-m-requires-clause-area_le_blocks c = search area_inside

pub decide-r-requires-clause-marks : goal.decide-r-requires-clause-marks
decide-r-requires-clause-marks c = search none-marked

pub returns-clause-work_after : goal.returns-clause-work_after
returns-clause-work_after c = search again_zero
