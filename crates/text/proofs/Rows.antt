-- What is due after a byte, by the rows of the table; x is what the code holds.
use mathlib.Core.Path.{◌≡◌, refl, sym, ap, ◌∙◌}
use mathlib.Core.Bool.{true, false, and-false}
use mathlib.Core.Logic.{◌⊎◌, inl, inr}
use mathlib.Core.List.{List, [], ◌∷◌}
use Prim.Native.Nat.{ℕ, zero, suc, ◌-◌, ◌≤◌, ◌<◌}
use native.Mathlib.Omega.{arith}
use lib.Dec.{leb}
use lib.ListN.{replicate}
use borrow.Author.Tests.{le-leb, lt-leb, leb-true, leb-false}
use Rattle.wire.proofs.Picks.{either, pick_true, pick_false}
use Rattle.text.specs.Text.{Range, from_to, in_range, Row, row, tail, table, never, begun, step}
use Rattle.text.specs.Awaited.{ranges, due}
use Rattle.text.specs.declared.Due.{Due}

-- ---- a range

module _ (a b c : ℕ) where
  range_in : a ≤ c → c ≤ b → in_range (from_to a b) c ≡ true
  unfolding in_range
  range_in h k = rw (le-leb a c h, le-leb c b k)

  range_low : c < a → in_range (from_to a b) c ≡ false
  unfolding in_range
  range_low h = rw (lt-leb a c h)

  pub range_high : b < c → in_range (from_to a b) c ≡ false
  unfolding in_range
  range_high h = rw (lt-leb c b h) (and-false (leb a c))

  -- ---- a row

  module _ (rs : List Range) (more : List Row) where
    hit : a ≤ c → c ≤ b → begun (row (from_to a b) rs ∷ more) c ≡ rs
    unfolding begun
    hit h k = pick_true _ _ (range_in h k)

    low : c < a → begun (row (from_to a b) rs ∷ more) c ≡ begun more c
    unfolding begun
    low h = pick_false _ _ (range_low h)

    high : b < c → begun (row (from_to a b) rs ∷ more) c ≡ begun more c
    unfolding begun
    high h = pick_false _ _ (range_high h)

-- ---- the table, from its characters of three bytes on, and of four

abbrev fours : List Row
fours =
    row (from_to 0xF0 0xF0) (from_to 0x90 0xBF ∷ tail ∷ tail ∷ []) ∷
    row (from_to 0xF1 0xF3) (tail ∷ tail ∷ tail ∷ []) ∷
    row (from_to 0xF4 0xF4) (from_to 0x80 0x8F ∷ tail ∷ tail ∷ []) ∷
    []

abbrev threes_but_E0 : List Row
threes_but_E0 =
    row (from_to 0xE1 0xEC) (tail ∷ tail ∷ []) ∷
    row (from_to 0xED 0xED) (from_to 0x80 0x9F ∷ tail ∷ []) ∷
    row (from_to 0xEE 0xEF) (tail ∷ tail ∷ []) ∷
    fours

abbrev threes : List Row
threes = row (from_to 0xE0 0xE0) (from_to 0xA0 0xBF ∷ tail ∷ []) ∷ threes_but_E0

module _ (c : ℕ) where
  to_threes : 0xDF < c → begun table c ≡ begun threes c
  to_threes h = high 0x20 0x7E c [] _ (omega arith) ∙ high 0xC2 0xDF c (tail ∷ []) threes h

  to_fours : 0xEF < c → begun table c ≡ begun fours c
  to_fours h =
      to_threes (omega arith) ∙ high 0xE0 0xE0 c (from_to 0xA0 0xBF ∷ tail ∷ []) _ (omega arith)
      ∙ high 0xE1 0xEC c (tail ∷ tail ∷ []) _ (omega arith)
      ∙ high 0xED 0xED c (from_to 0x80 0x9F ∷ tail ∷ []) _ (omega arith) ∙ high 0xEE 0xEF c (tail ∷ tail ∷ []) fours h

  past_F3 : 0xF3 < c → begun table c ≡ begun (row (from_to 0xF4 0xF4) (from_to 0x80 0x8F ∷ tail ∷ tail ∷ []) ∷ []) c
  past_F3 h =
      to_fours (omega arith) ∙ high 0xF0 0xF0 c (from_to 0x90 0xBF ∷ tail ∷ tail ∷ []) _ (omega arith)
      ∙ high 0xF1 0xF3 c (tail ∷ tail ∷ tail ∷ []) _ h

  no_row : begun [] c ≡ never
  unfolding begun
  no_row = refl

  -- no row begins with a byte below all rows from there on
  none_three : c < 0xE0 → begun threes c ≡ never
  none_three h =
      low 0xE0 0xE0 c (from_to 0xA0 0xBF ∷ tail ∷ []) _ h ∙ low 0xE1 0xEC c (tail ∷ tail ∷ []) _ (omega arith)
      ∙ low 0xED 0xED c (from_to 0x80 0x9F ∷ tail ∷ []) _ (omega arith) ∙ low 0xEE 0xEF c (tail ∷ tail ∷ []) fours (omega arith)
      ∙ low 0xF0 0xF0 c (from_to 0x90 0xBF ∷ tail ∷ tail ∷ []) _ (omega arith)
      ∙ low 0xF1 0xF3 c (tail ∷ tail ∷ tail ∷ []) _ (omega arith)
      ∙ low 0xF4 0xF4 c (from_to 0x80 0x8F ∷ tail ∷ tail ∷ []) [] (omega arith) ∙ no_row

  none_two : c < 0xC2 → begun (row (from_to 0xC2 0xDF) (tail ∷ []) ∷ threes) c ≡ never
  none_two h = low 0xC2 0xDF c (tail ∷ []) threes h ∙ none_three (omega arith)

  pub plain_begun : 0x20 ≤ c → c < 0x7F → begun table c ≡ []
  plain_begun h k = hit 0x20 0x7E c [] _ h (omega arith)

  -- ---- what the code holds after a first byte c

  module _ (x : List Range) where
    pub low_control : x ≡ ranges 1 1 0 → c < 0x20 → x ≡ begun table c
    unfolding ranges
    low_control e h = e ∙ sym (low 0x20 0x7E c [] _ h ∙ none_two (omega arith))

    pub one_byte : x ≡ ranges 0 0 0 → 0x20 ≤ c → c < 0x7F → x ≡ begun table c
    unfolding ranges
    one_byte e h k = e ∙ sym (plain_begun h k)

    pub no_first : x ≡ ranges 1 1 0 → 0x7F ≤ c → c < 0xC2 → x ≡ begun table c
    unfolding ranges
    no_first e h k = e ∙ sym (high 0x20 0x7E c [] _ h ∙ none_two k)

    pub two_bytes : x ≡ ranges 1 0x80 0xBF → 0xC2 ≤ c → c < 0xE0 → x ≡ begun table c
    unfolding ranges
    two_bytes e h k = e ∙ sym (high 0x20 0x7E c [] _ (omega arith) ∙ hit 0xC2 0xDF c (tail ∷ []) threes h (omega arith))

    pub after_E0 : x ≡ ranges 2 0xA0 0xBF → c ≡ 0xE0 → x ≡ begun table c
    unfolding ranges
    after_E0 e h = e
        ∙ sym (to_threes (omega arith) ∙ hit 0xE0 0xE0 c (from_to 0xA0 0xBF ∷ tail ∷ []) _ (omega arith) (omega arith))

    pub after_ED : x ≡ ranges 2 0x80 0x9F → c ≡ 0xED → x ≡ begun table c
    unfolding ranges
    after_ED e h =
        e ∙ sym (to_threes (omega arith) ∙ high 0xE0 0xE0 c (from_to 0xA0 0xBF ∷ tail ∷ []) _ (omega arith)
        ∙ high 0xE1 0xEC c (tail ∷ tail ∷ []) _ (omega arith)
        ∙ hit 0xED 0xED c (from_to 0x80 0x9F ∷ tail ∷ []) _ (omega arith) (omega arith))

    pub three_bytes : x ≡ ranges 2 0x80 0xBF → 0xE0 ≤ c → c ≤ 0xEF → (c ≡ 0xE0 → ⊥) → (c ≡ 0xED → ⊥) → x ≡ begun table c
    unfolding ranges
    three_bytes e h k m n =
        e ∙ sym (to_threes (omega arith) ∙ high 0xE0 0xE0 c (from_to 0xA0 0xBF ∷ tail ∷ []) _ (omega arith)
        ∙ go (either (leb c 0xEC)))
      where
        go : (leb c 0xEC ≡ true) ⊎ (leb c 0xEC ≡ false) → begun threes_but_E0 c ≡ tail ∷ tail ∷ []
        go (inl t) = let q = leb-true c 0xEC t in hit 0xE1 0xEC c (tail ∷ tail ∷ []) _ (omega arith) q
        go (inr f) =
            let q = leb-false c 0xEC f in
            high 0xE1 0xEC c (tail ∷ tail ∷ []) _ q ∙ high 0xED 0xED c (from_to 0x80 0x9F ∷ tail ∷ []) _ (omega arith)
            ∙ hit 0xEE 0xEF c (tail ∷ tail ∷ []) fours (omega arith) k

    pub after_F0 : x ≡ ranges 3 0x90 0xBF → c ≡ 0xF0 → x ≡ begun table c
    unfolding ranges
    after_F0 e h = e
        ∙ sym (to_fours (omega arith) ∙ hit 0xF0 0xF0 c (from_to 0x90 0xBF ∷ tail ∷ tail ∷ []) _ (omega arith) (omega arith))

    pub four_bytes : x ≡ ranges 3 0x80 0xBF → 0xF0 ≤ c → (c ≡ 0xF0 → ⊥) → c < 0xF4 → x ≡ begun table c
    unfolding ranges
    four_bytes e h k m =
        e ∙ sym (to_fours (omega arith) ∙ high 0xF0 0xF0 c (from_to 0x90 0xBF ∷ tail ∷ tail ∷ []) _ (omega arith)
        ∙ hit 0xF1 0xF3 c (tail ∷ tail ∷ tail ∷ []) _ (omega arith) (omega arith))

    pub after_F4 : x ≡ ranges 3 0x80 0x8F → c ≡ 0xF4 → x ≡ begun table c
    unfolding ranges
    after_F4 e h = e
        ∙ sym (past_F3 (omega arith) ∙ hit 0xF4 0xF4 c (from_to 0x80 0x8F ∷ tail ∷ tail ∷ []) [] (omega arith) (omega arith))

    pub above_all : x ≡ ranges 1 1 0 → 0xF4 ≤ c → (c ≡ 0xF4 → ⊥) → x ≡ begun table c
    unfolding ranges
    above_all e h k = e ∙ sym (past_F3 h ∙ high 0xF4 0xF4 c (from_to 0x80 0x8F ∷ tail ∷ tail ∷ []) [] (omega arith) ∙ no_row)

-- a byte that there is not, as the code's range
pub never_is : never ≡ ranges 1 1 0
unfolding ranges
never_is = refl

-- ---- after one byte more

module _ (d : Due) (c : ℕ) (x : List Range) where
  pub between_two : x ≡ begun table c → d.left ≡ 0 → x ≡ step (due d) c
  unfolding ranges step
  between_two e h = rw h e

  pub due_low : x ≡ ranges 1 1 0 → (d.left ≡ 0 → ⊥) → c < d.low → x ≡ step (due d) c
  unfolding ranges step
  due_low e n h = go d.left n
    where
      go : (k : ℕ) → (k ≡ 0 → ⊥) → x ≡ step (ranges k d.low d.high) c
      go zero m = absurd (m refl)
      go (suc k) m = e ∙ sym (pick_false _ _ (range_low d.low d.high c h))

  pub due_high : x ≡ ranges 1 1 0 → (d.left ≡ 0 → ⊥) → d.high < c → x ≡ step (due d) c
  unfolding ranges step
  due_high e n h = go d.left n
    where
      go : (k : ℕ) → (k ≡ 0 → ⊥) → x ≡ step (ranges k d.low d.high) c
      go zero m = absurd (m refl)
      go (suc k) m = e ∙ sym (pick_false _ _ (range_high d.low d.high c h))

  pub due_in : x ≡ ranges (d.left - 1) 0x80 0xBF → (d.left ≡ 0 → ⊥) → d.low ≤ c → c ≤ d.high → x ≡ step (due d) c
  unfolding ranges step
  due_in e n h k = go d.left n e
    where
      tails : (j : ℕ) → ranges j 0x80 0xBF ≡ replicate j tail
      tails zero = refl
      tails (suc j) = refl

      go : (j : ℕ) → (j ≡ 0 → ⊥) → x ≡ ranges (j - 1) 0x80 0xBF → x ≡ step (ranges j d.low d.high) c
      go zero m f = absurd (m refl)
      go (suc j) m f =
          let y : suc j - 1 ≡ j = omega arith in
          f ∙ ap (λ (i : ℕ). ranges i 0x80 0xBF) y ∙ tails j ∙ sym (pick_true _ _ (range_in d.low d.high c h k))
