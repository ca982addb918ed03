-- A check in steps: what is left to check from the marks Z on is what was to be checked from the marks W on.
use mathlib.Core.Path.{◌≡◌, refl, sym, ◌∙◌, subst}
use mathlib.Core.Bool.{Bool, true, false}
use mathlib.Core.Option.{Option, none, some}
use mathlib.Core.List.{List}
use Prim.Native.Nat.{ℕ}
use Rattle.block.specs.Block.{Area}
use Rattle.model.specs.Tree.{then}
use Rattle.model.proofs.Lists.{then_some, then-none}
use Rattle.check_chain.specs.Marks.{Marks, Beyond, Answers, MarksAnswer}
use Rattle.check_chain.proofs.Claims.{beyond_refl}

-- a check of what is claimed before, which says what is claimed then
abbrev pub Check : Type 0
Check = List ℕ → Option (List ℕ)

beyond_trans : {A : Area} {W Z U : List ℕ} → Beyond A W Z → Beyond A Z U → Beyond A W U
beyond_trans p q = record { long = q.long ∙ p.long; rest = λ j h. q.rest j h ∙ p.rest j h }

pub record Goes (A : Area) (f g : Check) (W Z : List ℕ) : Type 0 where
  pub beyond : Beyond A W Z
  pub rest : (seen : List ℕ) → Marks A W seen → (s : List ℕ) × Marks A Z s × (f seen ≡ g s)

pub goes_refl : (A : Area) (f : Check) (W : List ℕ) → Goes A f f W W
goes_refl A f W = record { beyond = beyond_refl A W; rest = λ seen m. (seen, m, refl) }

-- the same check in other words
pub goes_from : (A : Area) (e f g : Check) (W Z : List ℕ) → ((seen : List ℕ) → e seen ≡ f seen) → Goes A f g W Z → Goes A e g W Z
goes_from A e f g W Z q l = record { beyond = l.beyond; rest = λ seen m. let s = l.rest seen m in (s.0, s.1, q seen ∙ s.2) }

module _ (A : Area) (f g : Check) (W Z : List ℕ) (l : Goes A f g W Z) where
  -- nothing is left, or nothing can come of it
  pub goes_end : ((seen : List ℕ) → g seen ≡ some seen) → MarksAnswer A f W Z true
  goes_end e = record { beyond = l.beyond; answer = λ seen m. let s = l.rest seen m in (s.0, s.2 ∙ e s.0, s.1) }

  pub goes_stop : ((seen : List ℕ) → g seen ≡ none) → MarksAnswer A f W Z false
  goes_stop e = record { beyond = l.beyond; answer = λ seen m. let s = l.rest seen m in s.2 ∙ e s.0 }

  -- the next step, h, is answered
  module _ (h : Check) (Y : List ℕ) (r : Bool) (q : MarksAnswer A h Z Y r) where
    pub goes_no : r ≡ false → ((seen : List ℕ) → h seen ≡ none → g seen ≡ none) → MarksAnswer A f W Y false
    goes_no e c = record {
      beyond = beyond_trans l.beyond q.beyond;
      answer = λ seen m.
          let s = l.rest seen m in
          s.2 ∙ c s.0 (subst (Answers A h Z Y) e q.answer s.0 s.1);
    }

    pub goes_yes : (k : Check) → r ≡ true → ((seen s : List ℕ) → h seen ≡ some s → g seen ≡ k s) → Goes A f k W Y
    goes_yes k e c = record {
      beyond = beyond_trans l.beyond q.beyond;
      rest = λ seen m.
          let s = l.rest seen m in
          let y = subst (Answers A h Z Y) e q.answer s.0 s.1 in
          (y.0, y.2, s.2 ∙ c s.0 y.0 y.1);
    }

-- A step and then the rest, where the whole check is their sequence.
module _ (A : Area) (h : Check) (k : Check) (f : Check) (W Z : List ℕ) (r : Bool) (q : MarksAnswer A h W Z r) (is : (seen : List ℕ) → f seen ≡ then (h seen) k) where
  pub step_no : r ≡ false → MarksAnswer A f W Z r
  step_no e = subst (MarksAnswer A f W Z) (sym e) (goes_no A f f W W (goes_refl A f W) h Z r q e (λ seen z. is seen ∙ then-none k z))

  pub step_yes : r ≡ true → Goes A f k W Z
  step_yes e = goes_yes A f f W W (goes_refl A f W) h Z r q k e (λ seen s z. is seen ∙ then_some k z)

-- The last step answers for what is left.
pub goes_last : (A : Area) (f g : Check) (W Z Y : List ℕ) (r : Bool) → Goes A f g W Z → MarksAnswer A g Z Y r → MarksAnswer A f W Y r
goes_last A f g W Z Y true l q = goes_end A f some W Y (goes_yes A f g W Z l g Y true q some refl (λ seen s e. e)) (λ seen. refl)
goes_last A f g W Z Y false l q = goes_no A f g W Z l g Y false q refl (λ seen e. e)

-- the same check in other words
pub checks_as : (A : Area) (f g : Check) (W Z : List ℕ) (r : Bool) → ((seen : List ℕ) → g seen ≡ f seen) → MarksAnswer A f W Z r → MarksAnswer A g W Z r
checks_as A f g W Z r e q = goes_last A g f W W Z r (goes_from A g f f W W e (goes_refl A f W)) q
