-- Every byte of text is one, below 256: no range of the table goes further.
use mathlib.Core.Path.{◌≡◌, refl, sym, ap, ◌∙◌}
use mathlib.Core.Bool.{true, false}
use mathlib.Core.Logic.{◌⊎◌, inl, inr}
use mathlib.Core.List.{List, [], ◌∷◌}
use Prim.Native.Nat.{ℕ, zero, suc, ◌≤◌, ◌<◌}
use native.Mathlib.Omega.{arith}
use lib.Dec.{ltb}
use lib.ListN.{get_or}
use borrow.Author.Tests.{ltb-true, ltb-false}
use Rattle.wire.proofs.Picks.{either, not_both, pick_false, pick_case}
use Rattle.text.specs.Text.{Range, from_to, in_range, Row, row, table, never, begun, step, text_from, is_text}
use Rattle.text.specs.Awaited.{ranges}
use Rattle.text.proofs.Laws.{never_text}
use Rattle.text.proofs.Rows.{range_high, above_all}

-- what is due ends below 256
abbrev Ends : Range → Type 0
Ends (from_to a b) = b < 256

abbrev Low : List Range → Type 0
Low [] = Unit {0}
Low (r ∷ rs) = Ends r × Low rs

abbrev Lows : List Row → Type 0
Lows [] = Unit {0}
Lows (row r rs ∷ more) = Low rs × Lows more

never_low : Low never
never_low = (omega arith, tt)

table_low : Lows table
table_low =
    let t : 0xBF < 256 = omega arith in (
      tt,
      (
        (t, tt),
        (
          (t, (t, tt)),
          (
            (t, (t, tt)),
            (
              (omega arith, (t, tt)),
              (
                (t, (t, tt)),
                (
                  (t, (t, (t, tt))),
                  (
                    (t, (t, (t, tt))),
                    ((omega arith, (t, (t, tt))), tt),
                  ),
                ),
              ),
            ),
          ),
        ),
      ),
    )

begun_low : (t : List Row) (c : ℕ) → Lows t → Low (begun t c)
unfolding begun
begun_low [] c h = never_low
begun_low (row r rs ∷ more) c h = pick_case Low (in_range r c) rs (begun more c) (λ e. h.0) (λ e. begun_low more c h.1)

step_low : (rs : List Range) (c : ℕ) → Low rs → Low (step rs c)
unfolding step
step_low [] c h = begun_low table c table_low
step_low (r ∷ rs) c h = pick_case Low (in_range r c) rs never (λ e. h.1) (λ e. never_low)

-- no text goes on with more than a byte
high_range : (r : Range) (c : ℕ) → Ends r → 256 ≤ c → in_range r c ≡ false
high_range (from_to a b) c h k = range_high a b c (omega arith)

high_never : (rs : List Range) (c : ℕ) → Low rs → 256 ≤ c → step rs c ≡ never
unfolding step ranges
high_never [] c h k = sym (above_all c never refl (omega arith) (λ e. omega arith))
high_never (r ∷ rs) c h k = pick_false _ _ (high_range r c h.0 k)

from_bytes : (rs : List Range) (l : List ℕ) → Low rs → text_from rs l ≡ true → (i : ℕ) → get_or l i 0 < 256
unfolding text_from
from_bytes rs [] h t i = omega arith
from_bytes rs (c ∷ l) h t zero = go (either (ltb c 256))
  where
    go : (ltb c 256 ≡ true) ⊎ (ltb c 256 ≡ false) → c < 256
    go (inl e) = ltb-true c 256 e
    go (inr e) =
        absurd
        (not_both (ap (λ (x : List Range). text_from x l) (sym (high_never rs c h (ltb-false c 256 e))) ∙ t) (never_text l))
from_bytes rs (c ∷ l) h t (suc i) = from_bytes (step rs c) l (step_low rs c h) t i

pub text_bytes : (l : List ℕ) → is_text l ≡ true → (i : ℕ) → get_or l i 0 < 256
text_bytes l t = from_bytes [] l tt t
