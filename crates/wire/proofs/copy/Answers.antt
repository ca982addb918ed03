use Prim.Native.Nat.{ℕ, ◌+◌, ◌-◌}
use mathlib.Core.List.{List}
use mathlib.Core.Path.{◌≡◌}
use native.Mathlib.Omega.{arith}
use lib.ListN.{take, drop, length-take, length-drop}
use Rattle.wire.proofs.Numbers.{splice_part}
use Rattle.wire.proofs.copy.Goals as goal

-- the run as the loan of it gives it
run_is : {r : List ℕ} (src : List ℕ) (from n : ℕ) → r ≡ take (from + n - from) (drop from src) → r ≡ take n (drop from src)
run_is src from n e = let k : from + n - from ≡ n = omega arith in rw k at e

pub returns : goal.returns
returns c =
    let a = c.args in
    let w : c.copy_all.new.dst ≡ take a.n (drop a.from a.src.now) = run_is a.src.now a.from a.n (search c.copy_all.ensures) in
    rw w (splice_part a.dst.now a.at a.n (take a.n (drop a.from a.src.now)) (simp (length-take, length-drop) (omega arith)))
