-- What the code holds and passes: what is due of a character, and the plain bytes that stand first. Definitions alone.
use Rattle.std.specs.Prelude.{◌≡◌, List, [], ◌∷◌, ℕ, zero, suc, ◌≤◌, length, drop, replicate, Option, Some, None}
use Rattle.text.specs.Text.{Range, from_to, tail, never, is_text, has_byte}
use Rattle.text.specs.declared.Due.{Due}

-- k bytes, the next of them from a to b and all behind it from 0x80 to 0xBF
unfoldable pub ranges : ℕ → ℕ → ℕ → List Range
ranges zero a b = []
ranges (suc k) a b = from_to a b ∷ replicate k tail

abbrev pub due : Due → List Range
due d = ranges d.left d.low d.high

-- none: a byte stood where it may not
abbrev pub due_of : Option Due → List Range
due_of (Some d) = due d
due_of None = never

-- The first r bytes of l are plain and none is the byte a: the others decide whether l is text and whether a is in it.
pub record Passed (l : List ℕ) (a r : ℕ) : Type 0 where
  pub high : r ≤ length l
  pub text : is_text (drop r l) ≡ is_text l
  pub without : has_byte a (drop r l) ≡ has_byte a l
