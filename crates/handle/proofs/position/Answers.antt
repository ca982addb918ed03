use native.Mathlib.Omega.{arith}
use borrow.Author.Rules.{rules}
use borrow.Author.Tests.{tests}
use mir.Syntax.{w64}
use mir.Facts.{to_z-of_z}
use Rattle.handle.proofs.Seeks.{position_is}
use Rattle.handle.proofs.position.Goals as goal

pub returns : goal.returns
returns c =
    position_is c.args.size c.args.to _ c.try_from.result c.ok.result c.filter.result _ (omega arith) (to_z-of_z {w = w64} (record { sfits = c.ranges.to.sfits }))
    c.try_from.ensures c.ok.ensures.value c.filter.ensures (λ x b u. search (rules, tests))
