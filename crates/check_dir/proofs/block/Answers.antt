use Rattle.check_dir.proofs.DirBlocks.{block_no, block_yes}
use Rattle.check_dir.proofs.block.Goals as goal

pub returns-then-claim-clause-marks_answer : goal.returns-then-claim-clause-marks_answer
returns-then-claim-clause-marks_answer c = search block_yes

pub returns-else-claim-clause-marks_answer : goal.returns-else-claim-clause-marks_answer
returns-else-claim-clause-marks_answer c = search block_no
