use Prim.Native.Nat.{ℕ, ◌*◌, ◌<◌, ◌≤◌}
use mathlib.Core.List.{List}
use mathlib.Core.Path.{◌≡◌}
use native.Mathlib.Omega.{arith}
use borrow.Author.Rules.{rules}
use lib.Count as word
use lib.ListN.{get_or}
use Rattle.wire.specs.Be.{be}
use Rattle.bits.specs.Bit.{ones}
use Rattle.bits.proofs.Words.{word_ones}
use Rattle.bits.proofs.Bits.{ones-le}
use Rattle.bits.proofs.ones_in.Goals as goal

-- what is counted are the ones of the number that stands there
told : {v r : ℕ} (l : List ℕ) (at n : ℕ) → ((i : ℕ) → get_or l i 0 < 256) → v ≡ be n l at → r ≡ word.ones v
    → (r ≡ ones l at (8 * n)) × (r ≤ 8 * n)
told l at n bytes e k =
    let w : word.ones (be n l at) ≡ ones l at (8 * n) = word_ones l bytes n at in
    rw (k, e) (w, omega (arith, w, ones-le l at (8 * n)))

pub returns : goal.returns
returns c = told c.args.s.now c.args.at c.args.n (λ i. omega (arith, c.type_inv.s i)) c.get.ensures.0 (search rules)
