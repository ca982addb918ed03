-- What `claim` knows where it answers: one law for each answer; and the marks of a block that is claimed.
use mathlib.Core.Path.{◌≡◌, refl, sym, ap, ◌∙◌}
use mathlib.Core.Bool.{true, false}
use mathlib.Core.Logic.{◌⊎◌, inl, inr}
use mathlib.Core.List.{List, [], ◌∷◌}
use Prim.Native.Nat.{ℕ, suc, ◌+◌, ◌-◌, ◌*◌, ◌/◌, ◌≤◌, ◌<◌}
use native.Mathlib.Omega.{arith}
use native.Mathlib.Decide.{ℕ_discrete}
use lib.ListN.{length, get_or}
use Rattle.bits.specs.Bit.{bit, with_bit}
use Rattle.bits.proofs.Bits.{length_with, byte_with_other, bit_with_same, bit_with_other}
use Rattle.block.specs.Block.{Area}
use Rattle.model.specs.Render.{count}
use Rattle.model.proofs.Counts.{count_same, count_other}
use Rattle.thm_survey.specs.Survey.{claim}
use Rattle.check_bitmap.specs.Tally.{mark_bytes}
use Rattle.check_chain.specs.Marks.{Marks, Beyond, MarksAnswer}
use Rattle.thm_survey.proofs.ClaimTests.{claim_below, claim_above, claim-taken, claim_free}

pub beyond_refl : (A : Area) (W : List ℕ) → Beyond A W W
beyond_refl A W = record { long = refl; rest = λ j h. refl }

module _ (A : Area) (a : ℕ) (W : List ℕ) where
  no_below : a < A.first → MarksAnswer A (claim A [] a) W W false
  no_below h = record { beyond = beyond_refl A W; answer = λ seen m. claim_below A [] a seen h }

  no_above : A.first ≤ a → A.end ≤ a → MarksAnswer A (claim A [] a) W W false
  no_above h k = record { beyond = beyond_refl A W; answer = λ seen m. claim_above A [] a seen h k }

  pub no_outside : (a < A.first) ⊎ ((A.first ≤ a) × (A.end ≤ a)) → MarksAnswer A (claim A [] a) W W false
  no_outside (inl h) = no_below h
  no_outside (inr k) = no_above k.0 k.1

  module _ (x b : ℕ) (e : x ≡ a - A.first) (f : b ≡ bit W 0 x) where
    -- the mark of a block of the area says how often it is claimed
    mark_of : A.first ≤ a → a < A.end → (seen : List ℕ) → Marks A W seen → b ≡ count a seen
    mark_of h k seen m =
        let w : A.first + x ≡ a = omega arith in
        f ∙ m x (omega arith) ∙ ap (λ (c : ℕ). count c seen) w

    pub no_taken : A.first ≤ a → a < A.end → b ≡ 1 → MarksAnswer A (claim A [] a) W W false
    no_taken h k t =
        record {
          beyond = beyond_refl A W;
          answer = λ seen m. claim-taken A [] a seen h k (sym (mark_of h k seen m) ∙ t);
        }

    pub yes_free : A.first ≤ a → a < A.end → mark_bytes A ≤ length W → (b ≡ 1 → ⊥) → b < 2 → (Z : List ℕ) → Z ≡ with_bit W 0 x 1 → MarksAnswer A (claim A [] a) W Z true
    yes_free h k l t u Z z =
        let place : 0 + x / 8 < length W = omega arith in
        let zero_bit : b ≡ 0 = omega arith in
        record {
          beyond = record {
            long = ap length z ∙ length_with W 0 x 1;
            rest = λ j q. ap (λ (y : List ℕ). get_or y j 0) z ∙ byte_with_other W 0 x 1 j (omega arith);
          };
          answer = λ seen m. (a ∷ seen, claim_free A [] a seen h k (sym (mark_of h k seen m) ∙ zero_bit), λ y q. marks seen m place (sym (mark_of h k seen m) ∙ zero_bit) y q (ℕ_discrete y x));
        }
      where
        marks : (seen : List ℕ) → Marks A W seen → 0 + x / 8 < length W → count a seen ≡ 0 → (y : ℕ) → y < 8 * mark_bytes A → Dec (y ≡ x) → bit Z 0 y ≡ count (A.first + y) (a ∷ seen)
        marks seen m place v y q (yes g) =
            let w : A.first + y ≡ a = omega arith in
            ap (λ (r : List ℕ). bit r 0 y) z ∙ ap (λ (r : ℕ). bit (with_bit W 0 x 1) 0 r) g ∙ bit_with_same W 0 x 1 place (omega arith)
            ∙ sym (count_same (A.first + y) a seen w ∙ ap suc (ap (λ (c : ℕ). count c seen) w ∙ v))
        marks seen m place v y q (no g) =
            ap (λ (r : List ℕ). bit r 0 y) z ∙ bit_with_other W 0 x 1 y place (omega arith) g ∙ m y q ∙ sym (count_other (A.first + y) a seen (λ w. g (omega arith)))
