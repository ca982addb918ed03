use Prim.Native.Nat.{◌+◌, ◌/◌, ◌<◌}
use native.Mathlib.Omega.{arith}
use borrow.Author.Rules.{rules}
use borrow.Author.Tests.{tests}
use Rattle.std.specs.List.{between}
use Rattle.std.proofs.lemmas.Iterator.{YieldsList-from_slice, IsFirst-from_position}
use Rattle.std.proofs.lemmas.List.Edits.{length-between}
use Rattle.bits.proofs.Lowest.{Full, Open, none_clear, byte_clear}
use Rattle.bits.proofs.lowest_clear.Goals as goal

pub returns-in_err-passed : goal.returns-in_err-passed
returns-in_err-passed c =
    let a = c.args in
    let first = a.from + a.start / 8 in
    let end = a.from + (a.limit + 7) / 8 in
    let f = IsFirst-from_position _ _ _ Open Full c.in_err-passed.ensures.ran (YieldsList-from_slice (between first end a.s.now) cc) (λ x q k. search (rules, tests)) (λ x q k. search (rules, tests)) in
    rw c.from_residual.ensures (λ k h. none_clear a.s.now a.from a.start end c.requires.all_set a.limit (omega arith) (omega arith) c.requires.bits_fit f k h)

pub returns : goal.returns
returns c =
    let a = c.args in
    let first = a.from + a.start / 8 in
    let end = a.from + (a.limit + 7) / 8 in
    let i = c.in_ok-passed.passed in
    let f = IsFirst-from_position _ _ _ Open Full c.in_ok-passed.ensures.ran (YieldsList-from_slice (between first end a.s.now) cc) (λ x q k. search (rules, tests)) (λ x q k. search (rules, tests)) in
    let e = length-between a.s.now first end c.requires.bits_fit in
    let h : first + i < end = omega (arith, f.0, e) in
    rw c.then_some.ensures
    (byte_clear a.s.now a.from a.start end c.requires.all_set a.limit i c.trailing_ones.result (c.type_inv.s (first + i)).fits c.trailing_ones.ensures h f.1 f.2)
