-- What the check knows where it answers: one law for each answer; and what the number of a checked volume means.
use Rattle.std.specs.Prelude.{Result, Ok, Err}
use mathlib.Core.Path.{◌≡◌, refl, sym, ap, ◌∙◌}
use mathlib.Core.Bool.{Bool, true, false, not}
use mathlib.Core.Logic.{◌⊎◌, inl, inr}
use mathlib.Core.List.{List, [], ◌∷◌}
use Prim.Native.Nat.{ℕ, ◌≤◌, ◌<◌}
use native.Mathlib.Omega.{arith}
use native.Mathlib.Decide.{ℕ_discrete}
use lib.ListN.{length}
use borrow.Author.Tests.{lt-ltb, le-ltb}
use Rattle.wire.specs.Be.{zeros, splice}
use Rattle.wire.proofs.Picks.{either, not_both}
use Rattle.model.specs.Answers.{when, first_of}
use Rattle.limits.specs.Refusals.{refusal_number}
use Rattle.model.specs.Geometry.{Mount, Geo, geo_at, open_refusal}
use Rattle.model.specs.Volume.{WellFormed}
use Rattle.model.specs.Steps.{Bytes}
use Rattle.limits.specs.declared.Refusal.{Refusal}
use Rattle.limits.specs.declared.Refusal.TheVariants.{ShortWork, Damaged}
use Rattle.model.proofs.Opens.{when_true, when_false, when-none, first_of_head, first_of_tail, first_of_one, first_of_zero, opens_sound}
use Rattle.model.proofs.Replies.{settle-none}
use Rattle.limits.proofs.Numbers.{settle-refused, number_some, number_one}
use Rattle.super_block.specs.declared.SuperBlock.{SuperBlock}
use Rattle.super_block.specs.Super.{area_in, geo_of, Fit, OpenedIs}
use Rattle.super_block.proofs.Fits.{placed, opened_fit, opened-geo}
use Rattle.check_bitmap.specs.Tally.{mark_bytes, mark_long}
use Rattle.thm_survey.specs.Whole.{whole}
use Rattle.thm_survey.proofs.Wholes.{whole_sound, whole_complete}
use Rattle.call_volume.specs.Checking.{check_call, work_after, Decides, Checks, check_refusal, Checked}

-- ---- an opened volume

module _ (M : Mount) (I : List ℕ) (s : SuperBlock) (o : OpenedIs M I (Ok s)) where
  pub fit_opened : Fit s I
  fit_opened = opened_fit M I s o.0 o.1

  pub few_opened : s.blocks ≤ 8388608
  few_opened = (placed fit_opened).few

  pub area_opened : s.area.0 ≤ s.blocks
  area_opened = omega (arith, (placed fit_opened).some_data)

  module _ (W : List ℕ) (m : ℕ) (e : m ≡ mark_bytes (area_in s)) where
    mark_long_lem : m ≡ mark_long (geo_at M I)
    mark_long_lem = e ∙ ap (λ (x : SuperBlock). mark_bytes (area_in x)) o.1

    pub call_short : length W < m → Checked M I W (Err ShortWork) W
    unfolding check_refusal check_call work_after
    call_short h =
        let c : check_call M I (length W) ≡ 16
        = first_of_tail _ _ o.0 ∙ first_of_one _ ∙ when_true 16 (lt-ltb (length W) (mark_long (geo_at M I)) (omega (arith, mark_long_lem))) in
        record { answer = first_of_head _ _ (omega (arith, c)) ∙ c; work = sym (settle-refused _ _ ShortWork c) }

    module _ (h : m ≤ length W) where
      call_none : check_call M I (length W) ≡ 0
      unfolding check_call
      call_none = first_of_tail _ _ o.0 ∙ first_of_one _ ∙ when_false 16 (le-ltb (length W) (mark_long (geo_at M I)) (omega (arith, mark_long_lem)))

      module _ (b : Bool) (t : b ≡ whole (geo_of s) I) (Z : List ℕ) (z : Z ≡ splice W 0 (zeros (mark_bytes (area_in s)))) where
        number_is : check_refusal M I (length W) ≡ when 17 (not b)
        unfolding check_refusal
        number_is = first_of_tail _ _ call_none ∙ first_of_one _ ∙ ap (λ (x : Bool). when 17 (not x)) (sym (t ∙ ap (λ (x : Geo). whole x I) (opened-geo M I s o.1)))

        work_is : Z ≡ work_after M I W
        unfolding work_after
        work_is = rw (settle-none _ W call_none) (search (z ∙ ap (λ (k : ℕ). splice W 0 (zeros k)) (sym e ∙ mark_long_lem)))

        pub call_whole : b ≡ true → Checked M I W (Ok s) Z
        call_whole y = record { answer = (number_is ∙ when_false 17 (ap not y), o.1); work = work_is }

        pub call_damaged : b ≡ false → Checked M I W (Err Damaged) Z
        call_damaged y = record { answer = number_is ∙ when_true 17 (ap not y); work = work_is }

-- ---- a refused one

pub call_refused : (M : Mount) (I W : List ℕ) (r : Refusal) → OpenedIs M I (Err r) → Checked M I W (Err r) W
unfolding check_refusal check_call work_after
call_refused M I W r f =
    let c : check_call M I (length W) ≡ refusal_number r = first_of_head _ _ (omega (arith, f, number_some r)) ∙ f in
    record { answer = first_of_head _ _ (omega (arith, c, number_some r)) ∙ c; work = sym (settle-refused _ _ r c) }

-- ---- what the number means

checked_opens : (M : Mount) (I : List ℕ) (len : ℕ) → check_refusal M I len ≡ 0 → open_refusal M I ≡ 0
unfolding check_refusal check_call
checked_opens M I len e = (first_of_zero _ _ (first_of_zero _ _ e).0).0

module _ (M : Mount) (I : List ℕ) (len : ℕ) (b : Bytes I) where
  -- Nothing is refused: the image is well formed, and opens.
  pub check_passed : check_refusal M I len ≡ 0 → (check_call M I len ≡ 0) × (open_refusal M I ≡ 0) × WellFormed M I
  unfolding check_refusal check_call
  check_passed e =
      let p = first_of_zero _ _ e in
      let o : open_refusal M I ≡ 0 = checked_opens M I len e in
      let w : whole (geo_at M I) I ≡ true = not_not (whole (geo_at M I) I) (when-none 17 _ (omega arith) (sym (first_of_one _) ∙ p.1)) in
      (p.0, o, whole_sound M I b o (opens_sound M I o).0 w)
    where
      not_not : (x : Bool) → not x ≡ false → x ≡ true
      not_not true h = refl
      not_not false h = absurd (not_both refl h)

  check_refused : (r : Refusal) → check_refusal M I len ≡ refusal_number r
      → (refusal_number r ≡ first_of (check_call M I len ∷ (17 ∷ []))) × (check_call M I len ≡ 0 → WellFormed M I → ⊥)
  unfolding check_refusal
  check_refused r e = (go (ℕ_discrete (check_call M I len) 0) (either (whole (geo_at M I) I)), λ z w. bad z w)
    where
      bad : check_call M I len ≡ 0 → WellFormed M I → ⊥
      bad z w =
          let k : check_refusal M I len ≡ 0 = unfold check_refusal in first_of_tail _ _ z ∙ first_of_one _ ∙ when_false 17 (ap not (whole_complete M I b w)) in
          omega (arith, k, number_some r)

      go : Dec (check_call M I len ≡ 0) → (whole (geo_at M I) I ≡ true) ⊎ (whole (geo_at M I) I ≡ false) → refusal_number r ≡ first_of (check_call M I len ∷ (17 ∷ []))
      go (no z) y = sym e ∙ (unfold check_refusal in first_of_head _ _ (omega arith)) ∙ sym (first_of_head _ _ (omega arith))
      go (yes z) (inl y) =
          let k : check_refusal M I len ≡ 0 = unfold check_refusal in first_of_tail _ _ z ∙ first_of_one _ ∙ when_false 17 (ap not y) in
          absurd (omega (arith, k, number_some r))
      go (yes z) (inr y) =
          let k : check_refusal M I len ≡ 17 = unfold check_refusal in first_of_tail _ _ z ∙ first_of_one _ ∙ when_true 17 (ap not y) in
          sym e ∙ k ∙ sym (first_of_tail _ _ z ∙ first_of_one 17)

module _ (M : Mount) (I W Z : List ℕ) (b : Bytes I) where
  pub check_success : (s : SuperBlock) → Checked M I W (Ok s) Z → Checks M I W (Ok tt) Z
  check_success s h = let c = check_passed M I (length W) b h.answer.0 in record { answer = (c.0, c.2); work = h.work }

  pub check_refusal_lem : (r : Refusal) → Checked M I W (Err r) Z → Checks M I W (Err r) Z
  check_refusal_lem r h = record { answer = check_refused M I (length W) b r h.answer; work = h.work }

-- ---- any two outcomes are equal

decided_one : (M : Mount) (I : List ℕ) (len : ℕ) (r q : Result (Unit {0}) Refusal) → Decides M I len r → Decides M I len q → r ≡ q
decided_one M I len (Ok u) (Ok v) a c = refl
decided_one M I len (Ok u) (Err y) a c = absurd (c.1 a.0 a.1)
decided_one M I len (Err x) (Ok u) a c = absurd (a.1 c.0 c.1)
decided_one M I len (Err x) (Err y) a c = ap Err (number_one x y (a.0 ∙ sym c.0))

pub check_one : (M : Mount) (I W Z Y : List ℕ) (r q : Result (Unit {0}) Refusal) → Checks M I W r Z → Checks M I W q Y → (r ≡ q) × (Z ≡ Y)
check_one M I W Z Y r q a c = (decided_one M I (length W) r q a.answer c.answer, a.work ∙ sym c.work)
