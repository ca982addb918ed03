use Rattle.check_dir.proofs.DirBlocks.{open_no, open_yes}
use Rattle.check_dir.proofs.open_dir.Goals as goal

pub returns-then-blocks : goal.returns-then-blocks
returns-then-blocks c = open_yes _ _ _ _ _ _ c.blocks-2.ensures c.if-blocks.true _ c.distinct.ensures

pub returns-else-blocks : goal.returns-else-blocks
returns-else-blocks c = open_no _ _ _ _ _ _ c.blocks-2.ensures c.if-blocks.false
