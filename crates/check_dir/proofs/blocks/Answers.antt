use mathlib.Core.Path.{refl}
use Rattle.check_dir.proofs.DirBlocks.{blocks_no, blocks_yes}
use Rattle.check_dir.proofs.blocks.Goals as goal

pub returns-then-block : goal.returns-then-block
returns-then-block c =
    blocks_yes _ _ _ _ _ _ c.block.ensures.marks_answer c.if-block.true _ _ _ _ c.next_addr.ensures refl c.later.ensures

pub returns-else-block : goal.returns-else-block
returns-else-block c = blocks_no _ _ _ _ _ _ c.block.ensures.marks_answer c.if-block.false
