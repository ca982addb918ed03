use Prim.Native.Nat.{◌+◌}
use mathlib.Core.Path.{refl}
use native.Mathlib.Omega.{arith}
use Rattle.std.proofs.lemmas.List.Edits.{length-between, get_or-between}
use Rattle.wire.proofs.Zeros.{left_start, left_more, left_none}
use Rattle.wire.proofs.zero_bytes.Goals as goal

pub loop-b-init : goal.loop-b-init
loop-b-init c = left_start _ _ _ _ _ refl refl

pub loop-b-preserved : goal.loop-b-preserved
loop-b-preserved c =
    let a = c.args in
    let i = c.loop-b.b-index in
    let k = length-between a.s.now a.at (a.at + a.n) c.requires in
    left_more a.s.now a.at a.n i c.loop-b.ok c.loop-b.invariant _ _ (omega arith) (get_or-between a.s.now a.at (a.at + a.n) i 0 (omega arith)) refl

pub returns : goal.returns
returns c =
    let a = c.args in
    let k = length-between a.s.now a.at (a.at + a.n) c.requires in
    left_none a.s.now a.at a.n c.loop-b.b-index c.loop-b.ok c.loop-b.invariant (omega arith)
