use Rattle.check_volume.proofs.Decides.{tree_no, tree_yes}
use Rattle.check_volume.proofs.tree.Goals as goal

pub returns-then-open_dir : goal.returns-then-open_dir
returns-then-open_dir c = tree_yes _ _ _ _ _ _ c.open_dir.ensures c.if-open_dir.true _ _ c.walk_dir.ensures

pub returns-else-open_dir : goal.returns-else-open_dir
returns-else-open_dir c = tree_no _ _ _ _ _ _ c.open_dir.ensures c.if-open_dir.false
