use lib.ListN.{drop}
use mathlib.Core.Path.{◌≡◌}
use Rattle.text.specs.Text.{text_from, is_text}
use Rattle.text.specs.Awaited.{due}
use Rattle.text.proofs.walked.Given as goal

abbrev pub invariant-loop-c : goal.invariant-loop-c
invariant-loop-c l = text_from (due l.d) (drop l.c-index l.s) ≡ is_text l.s
