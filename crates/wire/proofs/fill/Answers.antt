use Prim.Native.Nat.{ℕ, ◌+◌}
use mathlib.Core.Path.{◌≡◌, ◌∙◌, ap}
use native.Mathlib.Omega.{arith}
use borrow.Author.Rules.{rules}
use lib.ListN.{replicate, length-replicate}
use Rattle.std.proofs.lemmas.List.Edits.{length-between}
use Rattle.wire.proofs.Numbers.{splice_part}
use Rattle.wire.proofs.fill.Goals as goal

pub returns : goal.returns
returns c =
    let a = c.args in
    let k = length-between a.s.now a.at (a.at + a.n) c.requires in
    let w : c.fill.new.self ≡ replicate a.n a.b = c.fill.ensures.after (λ y h. search rules) ∙ ap (λ (k : ℕ). replicate k a.b) (k ∙ omega arith) in
    rw w (splice_part a.s.now a.at a.n (replicate a.n a.b) (length-replicate a.n a.b))
