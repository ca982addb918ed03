use Prim.Native.Nat.{◌+◌}
use mathlib.Core.Path.{◌≡◌}
use native.Mathlib.Omega.{arith}
use borrow.Author.Rules.{rules}
use borrow.Author.Tests.{tests}
use Rattle.std.specs.Bool.{⊤}
use Rattle.std.specs.List.{between}
use Rattle.std.proofs.lemmas.Iterator.{YieldsList-from_slice, cases_from_all}
use Rattle.bitmap_room.proofs.Clear.{full_all}
use Rattle.bitmap_room.proofs.full_eight.Goals as goal

pub returns : goal.returns
returns c =
    let a = c.args in
    let eight : c.iter.result.rest.now ≡ between a.at (a.at + 8) a.s.now = search c.iter.ensures.rest in
    let f = cases_from_all _ _ c.all.result (λ b. b ≡ 255) (λ b. ⊤) c.all.ensures.ran (YieldsList-from_slice (between a.at (a.at + 8) a.s.now) eight) (λ x q k. search (rules, tests)) (λ x q k. tt) in
    full_all a.s.now a.at (λ i. omega (arith, c.type_inv.s i)) _ _ c.requires f
