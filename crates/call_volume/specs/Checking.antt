-- The check (C3). Definitions alone.
use Rattle.std.specs.Prelude.{◌≡◌, not, List, [], ◌∷◌, ℕ, ltb, length, Result, Ok, Err}
use Rattle.wire.specs.Be.{zeros, splice}
use Rattle.model.specs.Answers.{when, first_of, settle}
use Rattle.limits.specs.Refusals.{refusal_number}
use Rattle.model.specs.Geometry.{Mount, geo_at, open_refusal}
use Rattle.model.specs.Volume.{WellFormed}
use Rattle.super_block.specs.declared.SuperBlock.{SuperBlock}
use Rattle.super_block.specs.Super.{super_block}
use Rattle.check_bitmap.specs.Tally.{mark_long}
use Rattle.thm_survey.specs.Whole.{whole}
use Rattle.limits.specs.declared.Refusal.{Refusal}

-- O4, R16: 1, 2, 3, then 16 for a work buffer of len bytes that is too short for the marks: what is given before the check.
unfoldable pub check_call : Mount → List ℕ → ℕ → ℕ
check_call M I len = first_of (open_refusal M I ∷ (when 16 (ltb len (mark_long (geo_at M I))) ∷ []))

-- C3: the bytes of the marks are zero once the check was reached; all others stay, and so do these after an earlier refusal.
unfoldable pub work_after : Mount → List ℕ → List ℕ → List ℕ
work_after M I W = settle (check_call M I (length W)) (splice W 0 (zeros (mark_long (geo_at M I)))) W

-- O4, R17, S7: success exactly where W1 to W5 hold and nothing was given before; else what was given, or 17.
abbrev pub Decides : Mount → List ℕ → ℕ → Result (Unit {0}) Refusal → Type 0
Decides M I len (Ok u) = (check_call M I len ≡ 0) × WellFormed M I
Decides M I len (Err r) = (refusal_number r ≡ first_of (check_call M I len ∷ (17 ∷ [])))
    × (check_call M I len ≡ 0 → WellFormed M I → ⊥)

-- The check of image I with the work buffer W: the answer r, and the buffer Z.
pub record Checks (M : Mount) (I W : List ℕ) (r : Result (Unit {0}) Refusal) (Z : List ℕ) : Type 0 where
  pub answer : Decides M I (length W) r
  pub work : Z ≡ work_after M I W

-- ---- O8: the check of a changing call, as a number

unfoldable pub check_refusal : Mount → List ℕ → ℕ → ℕ
check_refusal M I len = first_of (check_call M I len ∷ (when 17 (not (whole (geo_at M I) I)) ∷ []))

abbrev pub CheckedIs : Mount → List ℕ → ℕ → Result SuperBlock Refusal → Type 0
CheckedIs M I len (Ok s) = (check_refusal M I len ≡ 0) × (s ≡ super_block (geo_at M I))
CheckedIs M I len (Err r) = check_refusal M I len ≡ refusal_number r

pub record Checked (M : Mount) (I W : List ℕ) (r : Result SuperBlock Refusal) (Z : List ℕ) : Type 0 where
  pub answer : CheckedIs M I (length W) r
  pub work : Z ≡ work_after M I W
