use mathlib.Core.Path.{refl}
use Rattle.wire.proofs.Picks.{not_both}
use Rattle.limits.proofs.Exits.{gave_none}
use Rattle.reached.proofs.Steps.{dir_less, reach_here, reach_last, rest_again, rest_hit, rest_end, rest_bad, entry_other, entry_down}
use Rattle.super_block.proofs.Fits.{area_inside}
use Rattle.reached.proofs.+dir_reaches.Goals as goal
use Rattle.reached.proofs.+dir_reaches.Goals.{in-Dir, in_default-matches, else-matches-via-then-matches+else-dir_reaches, else-matches-via-else-matches}

pub new-c-requires : goal.new-c-requires
new-c-requires t c = search area_inside

pub returns-then-eq : goal.returns-then-eq
returns-then-eq t c = search reach_here

pub returns-then-depth-eq0 : goal.returns-then-depth-eq0
returns-then-depth-eq0 t c = search reach_last

pub loop-x-init : goal.loop-x-init
loop-x-init t c = refl

pub returns-then-dir_reaches : goal.returns-then-dir_reaches
returns-then-dir_reaches t c =
    elim c.match-matches.branch [
      | in-Dir w ↦ search (rest_hit, entry_down)
      | in_default-matches w ↦ absurd (not_both c.if-matches.true w.matches-is)
    ]

pub loop-x-smaller : goal.loop-x-smaller
loop-x-smaller t c = search dir_less

pub loop-x-preserved : goal.loop-x-preserved
loop-x-preserved t c =
    elim c.else-matches.branch [
      | else-matches-via-then-matches+else-dir_reaches w ↦
          elim c.match-matches.branch [
            | in-Dir k ↦ search (rest_again, entry_down)
            | in_default-matches k ↦ absurd (not_both w.if-matches.true k.matches-is)
          ]
      | else-matches-via-else-matches w ↦
          elim c.match-matches.branch [
            | in-Dir k ↦ absurd (not_both k.matches-is w.if-matches.false)
            | in_default-matches k ↦ search (rest_again, entry_other)
          ]
    ]

pub returns-in_default : goal.returns-in_default
returns-in_default t c = search (rest_end, gave_none)

pub returns-in_default-2 : goal.returns-in_default-2
returns-in_default-2 t c = search rest_bad
