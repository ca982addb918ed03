-- S7: what the check part of a changing call decides.
use mathlib.Core.Path.{◌≡◌, ap, ◌∙◌}
use mathlib.Core.Bool.{Bool, true, false, not}
use mathlib.Core.Logic.{◌⊎◌, inl, inr, ◌↔◌}
use mathlib.Core.List.{List, [], ◌∷◌}
use Prim.Native.Nat.{ℕ, ◌≤◌, ◌<◌}
use native.Mathlib.Omega.{arith}
use native.Mathlib.Decide.{ℕ_discrete}
use lib.Dec.{ltb}
use lib.ListN.{length}
use borrow.Author.Tests.{le-ltb}
use Rattle.wire.proofs.Picks.{either}
use Rattle.model.specs.Answers.{when, first_of}
use Rattle.model.specs.Geometry.{Mount, geo_at, bad_code, bad_image, bad_mark, bad_count, open_refusal}
use Rattle.model.specs.Volume.{WellFormed}
use Rattle.model.specs.Steps.{Bytes}
use Rattle.model.proofs.OneVolume.{well_formed_opens}
use Rattle.model.proofs.Opens.{when_true, when_false, first_of_none, first_of_head, first_of_tail, first_of_one, refuses, passes}
use Rattle.check_bitmap.specs.Tally.{mark_long}
use Rattle.thm_survey.specs.Whole.{whole}
use Rattle.thm_survey.proofs.Wholes.{whole_complete}
use Rattle.call_volume.specs.Checking.{check_call, check_refusal}
use Rattle.call_volume.proofs.Checked.{check_passed}
use Rattle.promises.specs.Exact.{CheckIsExact}

-- a test in a list gives its number, or what follows it answers
first_when : (k : ℕ) (b : Bool) (ks : List ℕ) → 1 ≤ k → (first_of (when k b ∷ ks) ≡ k) ⊎ (first_of (when k b ∷ ks) ≡ first_of ks)
first_when k b ks h = go (either b)
  where
    go : (b ≡ true) ⊎ (b ≡ false) → (first_of (when k b ∷ ks) ≡ k) ⊎ (first_of (when k b ∷ ks) ≡ first_of ks)
    go (inl t) = inl (refuses k ks h t)
    go (inr f) = inr (passes k ks f)

-- 1, 2 and 3 are no more than 3, and 16 comes after them
module _ (M : Mount) (I : List ℕ) where
  abbrev third : List ℕ
  third = when 3 (bad_count (geo_at M I) (length I)) ∷ []

  abbrev second : List ℕ
  second = when 2 (bad_mark M I) ∷ third

  abbrev first : List ℕ
  first = when 1 (bad_image M (length I)) ∷ second

  abbrev all : List ℕ
  all = when 2 (bad_code M) ∷ first

  open_small : open_refusal M I ≤ 3
  unfolding open_refusal
  open_small =
      go (first_when 2 _ first (omega arith)) (first_when 1 _ second (omega arith)) (first_when 2 _ third (omega arith)) (first_when 3 _ [] (omega arith))
    where
      go : (first_of all ≡ 2) ⊎ (first_of all ≡ first_of first) → (first_of first ≡ 1) ⊎ (first_of first ≡ first_of second)
          → (first_of second ≡ 2) ⊎ (first_of second ≡ first_of third) → (first_of third ≡ 3) ⊎ (first_of third ≡ first_of []) → first_of all ≤ 3
      go (inl z) a b c = omega arith
      go (inr z) (inl a) b c = omega arith
      go (inr z) (inr a) (inl b) c = omega arith
      go (inr z) (inr a) (inr b) (inl c) = omega arith
      go (inr z) (inr a) (inr b) (inr c) = omega (arith, first_of_none)

call_small : (M : Mount) (I : List ℕ) (len : ℕ) → check_call M I len ≤ 16
unfolding check_call
call_small M I len = go (ℕ_discrete (open_refusal M I) 0) (either (ltb len (mark_long (geo_at M I))))
  where
    go : Dec (open_refusal M I ≡ 0) → (ltb len (mark_long (geo_at M I)) ≡ true) ⊎ (ltb len (mark_long (geo_at M I)) ≡ false)
        → first_of (open_refusal M I ∷ (when 16 (ltb len (mark_long (geo_at M I))) ∷ [])) ≤ 16
    go (no n) b =
        let k = first_of_head (open_refusal M I) (when 16 (ltb len (mark_long (geo_at M I))) ∷ []) (omega arith) in
        omega (arith, k, open_small M I)
    go (yes e) (inl t) = let k = first_of_tail _ _ e ∙ first_of_one _ ∙ when_true 16 t in omega (arith, k)
    go (yes e) (inr f) = let k = first_of_tail _ _ e ∙ first_of_one _ ∙ when_false 16 f in omega (arith, k)

module _ (M : Mount) (I : List ℕ) (len : ℕ) where
  check_earlier : 1 ≤ check_call M I len → check_refusal M I len ≡ check_call M I len
  unfolding check_refusal
  check_earlier h = first_of_head _ _ h

  -- none of 1, 2, 3, 16: what the whole check says
  check_last : check_call M I len ≡ 0 → check_refusal M I len ≡ when 17 (not (whole (geo_at M I) I))
  unfolding check_refusal
  check_last z = first_of_tail _ _ z ∙ first_of_one _

  module _ (b : Bytes I) where
    passes_well : check_call M I len ≡ 0 → WellFormed M I → check_refusal M I len ≡ 0
    passes_well z w = check_last z ∙ when_false 17 (ap not (whole_complete M I b w))

    check_passes : (check_refusal M I len ≡ 0) ↔ ((check_call M I len ≡ 0) × WellFormed M I)
    check_passes = (λ e. let p = check_passed M I len b e in (p.0, p.2), λ p. passes_well p.0 p.1)

    damaged_ill : check_call M I len ≡ 0 → (WellFormed M I → ⊥) → check_refusal M I len ≡ 17
    damaged_ill z bad = go (either (whole (geo_at M I) I))
      where
        go : (whole (geo_at M I) I ≡ true) ⊎ (whole (geo_at M I) I ≡ false) → check_refusal M I len ≡ 17
        go (inl t) = absurd (bad (check_passed M I len b (check_last z ∙ when_false 17 (ap not t))).2)
        go (inr f) = check_last z ∙ when_true 17 (ap not f)

  -- more than 16 is none of 1, 2, 3, 16
  call_none : 16 < check_refusal M I len → check_call M I len ≡ 0
  call_none h = go (ℕ_discrete (check_call M I len) 0)
    where
      go : Dec (check_call M I len ≡ 0) → check_call M I len ≡ 0
      go (yes z) = z
      go (no n) = absurd (omega (arith, check_earlier (omega arith), call_small M I len))

pub check_is_exact : CheckIsExact
check_is_exact =
    record {
      earlier = check_earlier;
      passes = check_passes;
      damaged = λ M I len b. (
        λ e.
            let z = call_none M I len (omega (arith, e)) in
            (z, λ w. omega (arith, e, passes_well M I len b z w)),
        λ p. let d = damaged_ill M I len b p.0 p.1 in omega (arith, d),
      );
    }

-- The check is reached, and passes, on a well-formed volume with a work buffer that is long enough.
module _ (M : Mount) (I W : List ℕ) (w : WellFormed M I) (long : mark_long (geo_at M I) ≤ length W) where
  pub long_reaches : check_call M I (length W) ≡ 0
  unfolding check_call
  long_reaches =
      first_of_tail _ _ (well_formed_opens M I w) ∙ first_of_one _
      ∙ when_false 16 (le-ltb (length W) (mark_long (geo_at M I)) long)

  pub long_passes : Bytes I → check_refusal M I (length W) ≡ 0
  long_passes b = (check_passes M I (length W) b).1 (long_reaches, w)
