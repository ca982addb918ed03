-- P7: text is well-formed UTF-8 by RFC 3629, without bytes below 0x20 and without 0x7F. A name is text without `/`.
-- Definitions alone.
use Rattle.std.specs.Prelude.{Bool, true, false, not, ◌||◌, ◌&&◌, List, [], ◌∷◌, ℕ, leb, eqb}
use Rattle.wire.specs.Pick.{pick}

-- the bytes from one to another, both included
pub data Range : Type 0 where
  from_to : ℕ → ℕ → Range

unfoldable pub in_range : Range → ℕ → Bool
in_range (from_to a b) c = leb a c && leb c b

-- A kind of character: the range of its first byte, and the ranges of the bytes that follow it, in order.
pub data Row : Type 0 where
  row : Range → List Range → Row

abbrev pub tail : Range
tail = from_to 0x80 0xBF

-- The table of RFC 3629, section 4, row by row; its first row, 0x00 to 0x7F, without the controls and 0x7F.
-- No row begins with 0x80 to 0xC1 or with 0xF5 and above. Behind 0xE0 and 0xF0 there is no longer form of a shorter character,
-- behind 0xED no surrogate, behind 0xF4 nothing above U+10FFFF.
abbrev pub table : List Row
table =
    row (from_to 0x20 0x7E) [] ∷
    row (from_to 0xC2 0xDF) (tail ∷ []) ∷
    row (from_to 0xE0 0xE0) (from_to 0xA0 0xBF ∷ tail ∷ []) ∷
    row (from_to 0xE1 0xEC) (tail ∷ tail ∷ []) ∷
    row (from_to 0xED 0xED) (from_to 0x80 0x9F ∷ tail ∷ []) ∷
    row (from_to 0xEE 0xEF) (tail ∷ tail ∷ []) ∷
    row (from_to 0xF0 0xF0) (from_to 0x90 0xBF ∷ tail ∷ tail ∷ []) ∷
    row (from_to 0xF1 0xF3) (tail ∷ tail ∷ tail ∷ []) ∷
    row (from_to 0xF4 0xF4) (from_to 0x80 0x8F ∷ tail ∷ tail ∷ []) ∷
    []

-- What is due where a byte was none that may stand there: a byte that there is not, so no text goes on and none ends.
abbrev pub never : List Range
never = from_to 1 0 ∷ []

-- what is due after the first byte of a character: what follows in the first row that begins with it
unfoldable pub begun : List Row → ℕ → List Range
begun [] c = never
begun (row r rs ∷ more) c = pick (in_range r c) rs (begun more c)

-- The walk: what is due of the character that it is in, nothing between two; and what is due after the next byte.
unfoldable pub step : List Range → ℕ → List Range
step [] c = begun table c
step (r ∷ rs) c = pick (in_range r c) rs never

abbrev pub is_done : List Range → Bool
is_done [] = true
is_done (r ∷ rs) = false

-- bytes that are text from there on: they end between two characters
unfoldable pub text_from : List Range → List ℕ → Bool
text_from rs [] = is_done rs
text_from rs (c ∷ l) = text_from (step rs c) l

abbrev pub is_text : List ℕ → Bool
is_text l = text_from [] l

-- ---- names

-- `/`
abbrev pub slash : ℕ
slash = 47

unfoldable pub has_byte : ℕ → List ℕ → Bool
has_byte a [] = false
has_byte a (c ∷ l) = eqb c a || has_byte a l

-- W3: whether these bytes may be a name; that a name has 1 to 255 bytes is said apart
unfoldable pub is_name : List ℕ → Bool
is_name l = is_text l && not (has_byte slash l)
