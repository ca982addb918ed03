use Rattle.call_read.proofs.Opening.{root_total}
use Rattle.call_read.proofs.about_root.Goals as goal

pub returns : goal.returns
returns c = root_total _ _ c.in_ok-size.ensures
