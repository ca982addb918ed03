-- The bytes of a file that a write makes longer, before the buffer is laid over them.
use mathlib.Core.Path.{◌≡◌, ◌∙◌}
use mathlib.Core.List.{List, ◌++◌}
use Prim.Native.Nat.{ℕ, ◌+◌, ◌-◌, ◌*◌}
use native.Mathlib.Omega.{arith}
use lib.ListN.{length, length-append, length-replicate}
use Rattle.wire.specs.Be.{zeros}
use Rattle.model.specs.Tree.{Cell}
use Rattle.model.specs.Volume.{blocks_for}
use Rattle.model.specs.Calls.{stream}

-- the old bytes with the new blocks' zeros, for a write of buf at c
unfoldable pub grown_bytes : ℕ → ℕ → List ℕ → List Cell → List ℕ
grown_bytes B c buf cs = stream cs ++ zeros ((B - 4) * (blocks_for B (c + length buf) - length cs))

-- where the old blocks are full, so are all
pub length-grown_bytes : (B c : ℕ) (buf : List ℕ) (cs : List Cell) → length (stream cs) ≡ (B - 4) * length cs
    → length (grown_bytes B c buf cs) ≡ (B - 4) * length cs + (B - 4) * (blocks_for B (c + length buf) - length cs)
unfolding grown_bytes
length-grown_bytes B c buf cs full = length-append (stream cs) (zeros ((B - 4) * (blocks_for B (c + length buf) - length cs)))
    ∙ omega (arith, full, length-replicate {A = ℕ} ((B - 4) * (blocks_for B (c + length buf) - length cs)) 0)
