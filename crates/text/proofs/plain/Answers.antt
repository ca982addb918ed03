use borrow.Author.Rules.{rules}
use borrow.Author.Tests.{tests}
use Rattle.std.specs.Bool.{⊤}
use Rattle.std.proofs.lemmas.Iterator.{YieldsList-from_slice, IsFirst-from_position}
use Rattle.text.proofs.Along.{Plain, passed_first}
use Rattle.text.proofs.plain.Goals as goal

pub returns : goal.returns
returns c =
    let a = c.args in
    let f = IsFirst-from_position _ _ c.position.result (λ x. ⊤) (Plain a.but) c.position.ensures.ran (YieldsList-from_slice a.s.now cc) (λ x q k. tt) (λ x q k. search (rules, tests)) in
    rw c.unwrap_or.ensures (passed_first a.s.now a.but c.position.result (λ x. ⊤) f)
