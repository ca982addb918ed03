use Rattle.check_chain.proofs.Chains.{file_large, file_cells}
use Rattle.check_chain.proofs.file_chain.Goals as goal

pub returns-then-size-le-FILE_LIMIT : goal.returns-then-size-le-FILE_LIMIT
returns-then-size-le-FILE_LIMIT c = file_cells _ _ _ _ _ c.if-size-le-FILE_LIMIT.true _ _ _ c.blocks_for.ensures c.cells.ensures

pub returns-else-size-le-FILE_LIMIT : goal.returns-else-size-le-FILE_LIMIT
returns-else-size-le-FILE_LIMIT c = file_large _ _ _ _ _ c.if-size-le-FILE_LIMIT.false
