-- Characters as numbers, and the bytes of each by RFC 3629, section 3, with no table. Definitions alone.
use Rattle.std.specs.Prelude.{◌≡◌, ◌⊎◌, List, [], ◌∷◌, ◌++◌, ℕ, ◌+◌, ◌/◌, ◌%◌, ◌≤◌, ◌<◌, ltb}
use Rattle.wire.specs.Pick.{pick}

-- A character that text may have: to U+10FFFF without U+D800 to U+DFFF, which are kept for UTF-16, and without the controls that
-- are one byte.
pub record Character (x : ℕ) : Type 0 where
  pub no_control : 0x20 ≤ x
  pub no_delete : x ≡ 0x7F → ⊥
  pub no_surrogate : (x < 0xD800) ⊎ (0xE000 ≤ x)
  pub last : x ≤ 0x10FFFF

abbrev pub Characters : List ℕ → Type 0
Characters [] = Unit {0}
Characters (x ∷ xs) = Character x × Characters xs

-- The bytes of a character: one, two, three or four by its size, and six binary digits in each but the first.
unfoldable pub encoded : ℕ → List ℕ
encoded x =
    pick (ltb x 0x80) (x ∷ [])
    (pick (ltb x 0x800) ((0xC0 + x / 64) ∷ (0x80 + x % 64) ∷ [])
    (pick (ltb x 0x10000) ((0xE0 + x / 4096) ∷ (0x80 + x / 64 % 64) ∷ (0x80 + x % 64) ∷ [])
    ((0xF0 + x / 262144) ∷ (0x80 + x / 4096 % 64) ∷ (0x80 + x / 64 % 64) ∷ (0x80 + x % 64) ∷ [])))

unfoldable pub encoded_all : List ℕ → List ℕ
encoded_all [] = []
encoded_all (x ∷ xs) = encoded x ++ encoded_all xs
