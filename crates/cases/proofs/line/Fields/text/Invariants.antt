use Rattle.std.proofs.Common.{◌≤◌, length}
use Rattle.cases.proofs.line.Fields.text.Given as goal

abbrev pub invariant-loop-quoted : goal.invariant-loop-quoted
invariant-loop-quoted l = l.len ≤ length l.room

abbrev pub decreases-loop-quoted : goal.decreases-loop-quoted
decreases-loop-quoted l = length l.self.rest.now
