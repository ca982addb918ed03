-- What text is: the bytes of characters, one after the other. Both ways.
use mathlib.Core.Path.{◌≡◌, refl, ◌∙◌}
use mathlib.Core.Bool.{true}
use mathlib.Core.Logic.{◌⊎◌, inl, inr}
use mathlib.Core.List.{List, [], ◌∷◌, ◌++◌}
use Prim.Native.Nat.{ℕ, ◌+◌, ◌/◌, ◌%◌, ◌≤◌, ◌<◌}
use native.Mathlib.Omega.{arith}
use lib.Dec.{ltb, eqb}
use borrow.Author.Tests.{ltb-true, ltb-false, eqb-true, eqb-false}
use Rattle.wire.proofs.Picks.{either}
use Rattle.text.specs.Text.{table, begun, is_text}
use Rattle.text.specs.Awaited.{ranges}
use Rattle.text.proofs.Rows.{one_byte, two_bytes, after_E0, after_ED, three_bytes, after_F0, four_bytes, after_F4}
use Rattle.text.proofs.Laws.{text_none}
use Rattle.thm_text.specs.Characters.{Character, Characters, encoded, encoded_all}
use Rattle.thm_text.proofs.Steps.{Tested, one_on, two_on, three_on, four_on, encoded-one, encoded_two, encoded_three}
use Rattle.thm_text.proofs.Steps.{encoded_four}

-- ---- a character's bytes are text, whatever text follows

module _ (x : ℕ) (m : List ℕ) (good : Character x) where
  go_one : x < 0x80 → is_text (encoded x ++ m) ≡ is_text m
  unfolding ranges
  go_one h =
      let d = good.no_delete in
      let n : x < 0x7F = omega arith in
      rw (encoded-one x h) (one_on 0 0 x m (one_byte x [] refl good.no_control n))

  go_two : 0x80 ≤ x → x < 0x800 → is_text (encoded x ++ m) ≡ is_text m
  go_two p q =
      rw (encoded_two (x / 64) (x % 64) x (omega arith) (omega arith) p q)
      (two_on 0x80 0xBF (0xC0 + x / 64) (0x80 + x % 64) m (two_bytes (0xC0 + x / 64) _ refl (omega arith) (omega arith))
      (omega arith) (omega arith))

  module _ (p : 0x800 ≤ x) (q : x < 0x10000) where
    by_three : (a b : ℕ) → ranges 2 a b ≡ begun table (0xE0 + x / 4096) → a ≤ 0x80 + x / 64 % 64 → 0x80 + x / 64 % 64 ≤ b
        → is_text (encoded x ++ m) ≡ is_text m
    by_three a b e h k =
        rw (encoded_three (x / 4096) (x / 64 % 64) (x % 64) x (omega arith) (omega arith) (omega arith) p q)
        (three_on a b (0xE0 + x / 4096) (0x80 + x / 64 % 64) (0x80 + x % 64) m e h k (omega arith) (omega arith))

    below_surrogates : x / 4096 ≡ 13 → x < 0xD800
    below_surrogates e = go good.no_surrogate
      where
        go : (x < 0xD800) ⊎ (0xE000 ≤ x) → x < 0xD800
        go (inl h) = h
        go (inr h) = absurd (omega arith)

    go_three : is_text (encoded x ++ m) ≡ is_text m
    go_three = go (either (eqb (x / 4096) 0)) (either (eqb (x / 4096) 13))
      where
        go : Tested (eqb (x / 4096) 0) → Tested (eqb (x / 4096) 13)
            → is_text (encoded x ++ m) ≡ is_text m
        go (inl t) b =
            let e = eqb-true (x / 4096) 0 t in
            by_three 0xA0 0xBF (after_E0 (0xE0 + x / 4096) _ refl (omega arith)) (omega arith) (omega arith)
        go (inr f) (inl t) =
            let e = eqb-true (x / 4096) 13 t in
            let s = below_surrogates e in
            by_three 0x80 0x9F (after_ED (0xE0 + x / 4096) _ refl (omega arith)) (omega arith) (omega arith)
        go (inr f) (inr g) =
            let e = eqb-false (x / 4096) 0 f in
            let d = eqb-false (x / 4096) 13 g in
            by_three 0x80 0xBF
            (three_bytes (0xE0 + x / 4096) _ refl (omega arith) (omega arith) (λ y. e (omega arith)) (λ y. d (omega arith)))
            (omega arith) (omega arith)

  module _ (p : 0x10000 ≤ x) where
    by_four : (a b : ℕ) → ranges 3 a b ≡ begun table (0xF0 + x / 262144) → a ≤ 0x80 + x / 4096 % 64 → 0x80 + x / 4096 % 64 ≤ b
        → is_text (encoded x ++ m) ≡ is_text m
    by_four a b e h k =
        rw (encoded_four (x / 262144) (x / 4096 % 64) (x / 64 % 64) (x % 64) x (omega arith) (omega arith) (omega arith)
        (omega arith) p)
        (four_on a b (0xF0 + x / 262144) (0x80 + x / 4096 % 64) (0x80 + x / 64 % 64) (0x80 + x % 64) m e h k (omega arith)
        (omega arith) (omega arith) (omega arith))

    go_four : is_text (encoded x ++ m) ≡ is_text m
    go_four =
        let l = good.last in
        go (either (eqb (x / 262144) 0)) (either (eqb (x / 262144) 4)) (omega arith)
      where
        go : Tested (eqb (x / 262144) 0) → Tested (eqb (x / 262144) 4)
            → x ≤ 0x10FFFF → is_text (encoded x ++ m) ≡ is_text m
        go (inl t) b l =
            let e = eqb-true (x / 262144) 0 t in
            by_four 0x90 0xBF (after_F0 (0xF0 + x / 262144) _ refl (omega arith)) (omega arith) (omega arith)
        go (inr f) (inl t) l =
            let e = eqb-true (x / 262144) 4 t in
            by_four 0x80 0x8F (after_F4 (0xF0 + x / 262144) _ refl (omega arith)) (omega arith) (omega arith)
        go (inr f) (inr g) l =
            let e = eqb-false (x / 262144) 0 f in
            let d = eqb-false (x / 262144) 4 g in
            by_four 0x80 0xBF
            (four_bytes (0xF0 + x / 262144) _ refl (omega arith) (λ y. e (omega arith)) (middle d l)) (omega arith) (omega arith)
          where
            middle : (x / 262144 ≡ 4 → ⊥) → x ≤ 0x10FFFF → 0xF0 + x / 262144 < 0xF4
            middle d l = omega arith

  character_text : is_text (encoded x ++ m) ≡ is_text m
  character_text = go (either (ltb x 0x80)) (either (ltb x 0x800)) (either (ltb x 0x10000))
    where
      go : Tested (ltb x 0x80) → Tested (ltb x 0x800)
          → Tested (ltb x 0x10000) → is_text (encoded x ++ m) ≡ is_text m
      go (inl a) b d = go_one (ltb-true x 0x80 a)
      go (inr a) (inl b) d = go_two (ltb-false x 0x80 a) (ltb-true x 0x800 b)
      go (inr a) (inr b) (inl d) = go_three (ltb-false x 0x800 b) (ltb-true x 0x10000 d)
      go (inr a) (inr b) (inr d) = go_four (ltb-false x 0x10000 d)

-- THE MEANING, one way: the bytes of characters are text.
pub encoded_text : (xs : List ℕ) → Characters xs → is_text (encoded_all xs) ≡ true
unfolding encoded_all
encoded_text [] h = text_none
encoded_text (x ∷ xs) h = character_text x (encoded_all xs) h.0 ∙ encoded_text xs h.1
