-- S14: a patch of whose blocks not all have arrived. Definitions alone. B is the block size, I the image before the patch, J
-- after it.
use Rattle.std.specs.Prelude.{◌≡◌, ◌⊎◌, List, [], ◌∷◌, ℕ, ◌+◌, ◌*◌, ◌<◌, length, get_or}
use Rattle.model.specs.Tree.{Cell}

-- Block b of L is the one of I.
abbrev pub BlockAs : ℕ → List ℕ → List ℕ → ℕ → Type 0
BlockAs B I L b = (i : ℕ) → i < B → get_or L (B * b + i) 0 ≡ get_or I (B * b + i) 0

-- Each block of L is the one of I or the one of J, whichever.
pub record Arrived (B : ℕ) (I J L : List ℕ) : Type 0 where
  pub long : length L ≡ length I
  pub each : (b : ℕ) → BlockAs B I L b ⊎ BlockAs B J L b

-- The blocks es of a file, where I has cs and J has ds: the old bytes where L has the block of I, the new ones where it has that
-- of J.
abbrev pub Mixture : ℕ → List ℕ → List ℕ → List ℕ → List Cell → List Cell → List Cell → Type 0
Mixture B I J L [] ds es = es ≡ []
Mixture B I J L (c ∷ cs) [] es = ⊥
Mixture B I J L (c ∷ cs) (d ∷ ds) [] = ⊥
Mixture B I J L (c ∷ cs) (d ∷ ds) (e ∷ es) =
    ((BlockAs B I L c.at → e.body ≡ c.body) × (BlockAs B J L c.at → e.body ≡ d.body)) × Mixture B I J L cs ds es
