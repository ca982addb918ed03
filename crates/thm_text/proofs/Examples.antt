-- What is text and what is not, computed.
use mathlib.Core.Path.{◌≡◌, refl}
use mathlib.Core.Bool.{true, false}
use mathlib.Core.List.{[], ◌∷◌}
use Rattle.wire.specs.Pick.{pick}
use Rattle.text.specs.Text.{in_range, begun, step, text_from, is_text, has_byte, is_name}

-- é, € and U+10FFFF, the last character; controls of two bytes, as U+0080, are allowed
pub characters : (is_text (0xC3 ∷ 0xA9 ∷ []) ≡ true) × (is_text (0xE2 ∷ 0x82 ∷ 0xAC ∷ []) ≡ true)
    × (is_text (0xF4 ∷ 0x8F ∷ 0xBF ∷ 0xBF ∷ []) ≡ true) × (is_text (0xC2 ∷ 0x80 ∷ []) ≡ true)
unfolding pick in_range begun step text_from
characters = (refl, refl, refl, refl)

-- controls of one byte
pub controls : (is_text (0x1F ∷ []) ≡ false) × (is_text (0x7F ∷ []) ≡ false)
unfolding pick in_range begun step text_from
controls = (refl, refl)

-- the number 0 in two, three and four bytes
pub too_long_lem : (is_text (0xC0 ∷ 0x80 ∷ []) ≡ false) × (is_text (0xE0 ∷ 0x80 ∷ 0x80 ∷ []) ≡ false)
    × (is_text (0xF0 ∷ 0x80 ∷ 0x80 ∷ 0x80 ∷ []) ≡ false)
unfolding pick in_range begun step text_from
too_long_lem = (refl, refl, refl)

-- U+D800, which is kept for UTF-16, U+110000 and U+140000
pub no_characters : (is_text (0xED ∷ 0xA0 ∷ 0x80 ∷ []) ≡ false) × (is_text (0xF4 ∷ 0x90 ∷ 0x80 ∷ 0x80 ∷ []) ≡ false)
    × (is_text (0xF5 ∷ 0x80 ∷ 0x80 ∷ 0x80 ∷ []) ≡ false)
unfolding pick in_range begun step text_from
no_characters = (refl, refl, refl)

-- the first byte of é alone, its second alone, a slash between them, and a tail byte too large
pub torn : (is_text (0xC3 ∷ []) ≡ false) × (is_text (0xA9 ∷ []) ≡ false) × (is_text (0xC3 ∷ 0x2F ∷ 0xA9 ∷ []) ≡ false)
    × (is_text (0xC3 ∷ 0xC0 ∷ []) ≡ false)
unfolding pick in_range begun step text_from
torn = (refl, refl, refl, refl)

-- a slash is text and no name
pub slashes : (is_text (0x2F ∷ []) ≡ true) × (is_name (0x2F ∷ []) ≡ false)
unfolding pick in_range begun step text_from has_byte is_name
slashes = (refl, refl)
