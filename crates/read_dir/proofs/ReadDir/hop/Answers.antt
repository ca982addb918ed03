use Rattle.read_dir.proofs.Moves.{hop_end, hop_go}
use Rattle.read_dir.proofs.ReadDir.hop.Goals as goal

pub returns-then-next-eq0 : goal.returns-then-next-eq0
returns-then-next-eq0 c = search hop_end

pub returns : goal.returns
returns c = search hop_go
