use Rattle.file_read.proofs.Follows.{follow_end, follow_out, follow_again}
use Rattle.file_read.proofs.follow.Goals as goal

pub returns-then-not-has : goal.returns-then-not-has
returns-then-not-has c = search follow_out

pub loop-preserved : goal.loop-preserved
loop-preserved c = search follow_again

pub returns : goal.returns
returns c = search follow_end
