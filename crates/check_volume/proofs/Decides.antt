-- The whole check: what the code knows where it answers, and the work buffer before and after.
use mathlib.Core.Path.{◌≡◌, sym, ap, ◌∙◌, subst}
use mathlib.Core.Bool.{Bool, true, false, ◌&&◌}
use mathlib.Core.Logic.{◌⊎◌, inl, inr}
use mathlib.Core.Option.{Option, none, some}
use mathlib.Core.List.{List, []}
use Prim.Native.Nat.{ℕ, ◌+◌, ◌-◌, ◌*◌, ◌/◌, ◌%◌, ◌≤◌, ◌<◌}
use native.Mathlib.Omega.{arith}
use lib.Dec.{eqb}
use lib.ListN.{length, get_or, replicate, length-replicate, get_or-replicate}
use lib.Seq.{ext_get_or}
use native.Mathlib.Decide.{dec_lt}
use Rattle.wire.specs.Be.{splice}
use Rattle.wire.specs.Pick.{zero_from}
use Rattle.wire.proofs.Numbers.{length-splice, splice_in, splice-after}
use Rattle.wire.proofs.Picks.{either, not_both, and_both, both_and}
use Rattle.bits.specs.Bit.{bit, digit}
use Rattle.bits.proofs.Digits.{digit_of_zero}
use Rattle.block.specs.Block.{Area}
use Rattle.model.specs.Tree.{then}
use Rattle.model.specs.Render.{count}
use Rattle.model.specs.Geometry.{Geo, block_size, map_at, data_at, map_bits, set_bits, used_count}
use Rattle.model.specs.Volume.{max_depth}
use Rattle.model.specs.Steps.{Bytes}
use Rattle.model.proofs.Counts.{count_none}
use Rattle.super_block.specs.declared.SuperBlock.{SuperBlock}
use Rattle.super_block.specs.Super.{area_in, geo_of, Fit}
use Rattle.super_block.proofs.Fits.{area_is}
use Rattle.read_dir.specs.Walk.{walk}
use Rattle.check_bitmap.specs.Tally.{mark_bytes, mark_long, agreed}
use Rattle.check_bitmap.proofs.Marks.{agrees_sound, agrees_bits, agrees_complete}
use Rattle.thm_survey.specs.Survey.{survey, seen_of}
use Rattle.check_chain.specs.Marks.{Marks, Beyond, Answers, MarksAnswer}
use Rattle.thm_survey.specs.Steps.{open_dir, through, entry_check, dir_check}
use Rattle.thm_survey.specs.Whole.{bits_are, all_below, bits_of, whole}
use Rattle.check_chain.proofs.Remaining.{Check, goes_last, step_no, step_yes}
use Rattle.thm_survey.proofs.WalkedDirs.{dir_steps}
use Rattle.thm_survey.proofs.Wholes.{bits_told, bits_pass, below_told, below_pass, claims_of, claimed_past}

-- ---- the tree

module _ (A : Area) (I : List ℕ) (a : ℕ) (W Z : List ℕ) (r : Bool) (q : MarksAnswer A (λ seen. seen_of (open_dir A I a seen)) W Z r) where
  abbrev tree_check : Check
  tree_check seen = seen_of (survey A I max_depth a seen)

  abbrev entries : Check
  entries = through (entry_check A I max_depth) (walk A I a)

  as_steps : (seen : List ℕ) → tree_check seen ≡ then (seen_of (open_dir A I a seen)) entries
  unfolding dir_check
  as_steps seen = dir_steps A I max_depth a seen

  pub tree_no : r ≡ false → MarksAnswer A tree_check W Z r
  tree_no e = step_no A _ entries tree_check W Z r q as_steps e

  pub tree_yes : r ≡ true → (Y : List ℕ) (t : Bool) → MarksAnswer A entries Z Y t → MarksAnswer A tree_check W Y t
  tree_yes e Y t p = goes_last A tree_check entries W Z Y t (step_yes A _ entries tree_check W Z r q as_steps e) p

-- ---- the answer

module _ (s : SuperBlock) (I : List ℕ) (f : Fit s I) where
  abbrev g : Geo
  g = geo_of s

  abbrev surveyed : Check
  surveyed seen = seen_of (survey (area_in s) I max_depth s.area.0 seen)

  surveyed_is : (o : Option (List ℕ)) → surveyed [] ≡ o → claims_of g I ≡ o
  surveyed_is o e = ap (λ (A : Area). seen_of (survey A I max_depth A.first [])) (sym (area_is f)) ∙ e

  rest_is : zero_from I (s.size * s.addr.0 + 18) (s.size - 18) ≡ zero_from I (block_size g * g.K + 18) (block_size g - 18)
  rest_is = ap (λ (B : ℕ). zero_from I (B * s.addr.0 + 18) (B - 18)) f.size

  pub not_rest : (t : Bool) → t ≡ zero_from I (s.size * s.addr.0 + 18) (s.size - 18) → t ≡ false → false ≡ whole g I
  unfolding whole
  not_rest t h e = sym (ap (λ (b : Bool). b && (bits_of g I (claims_of g I) && eqb (used_count g I) (data_at g + set_bits I g))) (sym (h ∙ rest_is) ∙ e))

  module _ (t : Bool) (h : t ≡ zero_from I (s.size * s.addr.0 + 18) (s.size - 18)) (e : t ≡ true) where
    rest_then : (o : Option (List ℕ)) → claims_of g I ≡ o → whole g I ≡ (bits_of g I o && eqb (used_count g I) (data_at g + set_bits I g))
    unfolding whole
    rest_then o c =
        ap (λ (b : Bool). b && (bits_of g I (claims_of g I) && eqb (used_count g I) (data_at g + set_bits I g))) (sym (h ∙ rest_is) ∙ e)
        ∙ ap (λ (x : Option (List ℕ)). bits_of g I x && eqb (used_count g I) (data_at g + set_bits I g)) c

    module _ (W Z : List ℕ) (r : Bool) (m : Marks (area_in s) W []) (q : MarksAnswer (area_in s) surveyed W Z r) where
      pub not_tree : r ≡ false → false ≡ whole g I
      unfolding bits_of
      not_tree z = sym (rest_then none (surveyed_is none (subst (Answers (area_in s) surveyed W Z) z q.answer [] m)))

      module _ (z : r ≡ true) (b : Bytes I) (w : Bytes Z) (l : mark_bytes (area_in s) ≤ length W) (v : Bool) (k : v ≡ agreed g I Z) where
        abbrev claimed : (seen : List ℕ) × (surveyed [] ≡ some seen) × Marks (area_in s) Z seen
        claimed = subst (Answers (area_in s) surveyed W Z) z q.answer [] m

        there : claims_of g I ≡ some claimed.0
        there = surveyed_is (some claimed.0) claimed.1

        marks : (x : ℕ) → x < 8 * mark_long g → bit Z 0 x ≡ count (data_at g + x) claimed.0
        marks =
            subst (λ (A : Area). (x : ℕ) → x < 8 * mark_bytes A → bit Z 0 x ≡ count (A.first + x) claimed.0) (area_is f)
            claimed.2

        past : (x : ℕ) → g.n - data_at g ≤ x → count (data_at g + x) claimed.0 ≡ 0
        past x j = claimed_past g I f.sound b claimed.0 there (data_at g + x) (omega arith)

        long : mark_long g ≤ length Z
        long = subst (λ (A : Area). mark_bytes A ≤ length Z) (area_is f) (omega (arith, q.beyond.long))

        same_bits : agreed g I Z ≡ bits_of g I (some claimed.0)
        unfolding bits_of
        same_bits = go (either (agreed g I Z)) (either bs)
          where
            bs : Bool
            bs = bits_are I (block_size g * map_at g) (λ x. count (data_at g + x) claimed.0) (map_bits g) && all_below (data_at g + map_bits g) claimed.0

            low : agreed g I Z ≡ true → (i : ℕ) → 1 ≤ count i claimed.0 → Dec (i < data_at g + map_bits g) → i < data_at g + map_bits g
            low x i c (yes l) = l
            low x i c (no l) =
                let e : data_at g + (i - data_at g) ≡ i = omega arith in
                let n = agrees_bits g I Z f.sound long (λ y. count (data_at g + y) claimed.0) marks past x (i - data_at g) (omega arith) in
                absurd (omega (arith, c, n, ap (λ (j : ℕ). count j claimed.0) e))

            clear : all_below (data_at g + map_bits g) claimed.0 ≡ true → (x : ℕ) → map_bits g ≤ x → Dec (0 < count (data_at g + x) claimed.0)
                → count (data_at g + x) claimed.0 ≡ 0
            clear y x h (yes l) = absurd (omega (arith, below_told (data_at g + map_bits g) claimed.0 y (data_at g + x) l))
            clear y x h (no l) = omega arith

            go : (agreed g I Z ≡ true) ⊎ (agreed g I Z ≡ false) → (bs ≡ true) ⊎ (bs ≡ false) → agreed g I Z ≡ bs
            go (inl x) y =
                x ∙ sym (both_and (bits_pass I (block_size g * map_at g) _ (map_bits g) (agrees_sound g I Z f.sound long _ marks past x))
                (below_pass (data_at g + map_bits g) claimed.0 (λ i c. low x i c (dec_lt i (data_at g + map_bits g)))))
            go (inr x) (inl y) =
                let h = and_both _ _ y in
                absurd (not_both (agrees_complete g I Z f.sound long _ marks past b w (bits_told I (block_size g * map_at g) _ (map_bits g) h.0)
                (λ j k. clear h.1 j k (dec_lt 0 (count (data_at g + j) claimed.0)))) x)
            go (inr x) (inr y) = x ∙ sym y

        whole_is : whole g I ≡ (v && eqb (used_count g I) (data_at g + set_bits I g))
        whole_is = rest_then (some claimed.0) there ∙ ap (λ (x : Bool). x && eqb (used_count g I) (data_at g + set_bits I g)) (sym same_bits ∙ sym k)

        pub not_agreed : v ≡ false → v ≡ whole g I
        not_agreed y = y ∙ sym (whole_is ∙ ap (λ (x : Bool). x && eqb (used_count g I) (data_at g + set_bits I g)) y)

        pub answer_count : v ≡ true → (u : Bool) → u ≡ eqb (used_count g I) (data_at g + set_bits I g) → u ≡ whole g I
        answer_count y u o = o ∙ sym (whole_is ∙ ap (λ (x : Bool). x && eqb (used_count g I) (data_at g + set_bits I g)) y)

-- ---- the work buffer

module _ (A : Area) (W : List ℕ) (m : ℕ) (e : m ≡ mark_bytes A) (l : mark_bytes A ≤ length W) (Y : List ℕ) (h : Y ≡ splice W 0 (replicate m 0)) where
  fits : 0 + length (replicate {A = ℕ} m 0) ≤ length W
  fits = omega (arith, length-replicate {A = ℕ} m 0)

  -- its bytes of marks are zero, so nothing is marked
  pub none-marked : Marks A Y []
  unfolding bit digit
  none-marked x p =
      let j : x / 8 < m = omega arith in
      let z : get_or Y (0 + x / 8) 0 ≡ 0 = ap (λ (y : List ℕ). get_or y (0 + x / 8) 0) h ∙ splice_in W 0 (replicate m 0) fits (x / 8) (omega (arith, length-replicate {A = ℕ} m 0)) ∙ get_or-replicate m (x / 8) 0 0 j in
      ap (λ (y : ℕ). digit y (x % 8)) z ∙ digit_of_zero (x % 8) ∙ sym (count_none (A.first + x))

  -- and zero again they are as they were the first time
  pub again_zero : (Z U : List ℕ) → Beyond A Y Z → U ≡ splice Z 0 (replicate m 0) → U ≡ splice W 0 (replicate (mark_bytes A) 0)
  again_zero Z U b u = u ∙ ext_get_or 0 (splice Z 0 (replicate m 0)) (splice W 0 (replicate m 0)) lengths (λ j _. go j (dec_lt j m)) ∙ ap (λ (k : ℕ). splice W 0 (replicate k 0)) e
    where
      k : length (replicate {A = ℕ} m 0) ≡ m
      k = length-replicate {A = ℕ} m 0

      long : length Z ≡ length W
      long = b.long ∙ ap length h ∙ length-splice W 0 (replicate m 0) fits

      room : 0 + length (replicate {A = ℕ} m 0) ≤ length Z
      room = omega (arith, fits, long)

      lengths : length (splice Z 0 (replicate m 0)) ≡ length (splice W 0 (replicate m 0))
      lengths = length-splice Z 0 (replicate m 0) room ∙ long ∙ sym (length-splice W 0 (replicate m 0) fits)

      go : (j : ℕ) → Dec (j < m) → get_or (splice Z 0 (replicate m 0)) j 0 ≡ get_or (splice W 0 (replicate m 0)) j 0
      go j (yes p) =
          let w : j ≡ 0 + j = omega arith in
          ap (λ (x : ℕ). get_or (splice Z 0 (replicate m 0)) x 0) w ∙ splice_in Z 0 (replicate m 0) room j (omega (arith, k))
          ∙ sym (ap (λ (x : ℕ). get_or (splice W 0 (replicate m 0)) x 0) w ∙ splice_in W 0 (replicate m 0) fits j (omega (arith, k)))
      go j (no p) = splice-after Z 0 (replicate m 0) room j (omega (arith, k)) ∙ b.rest j (omega arith) ∙ ap (λ (y : List ℕ). get_or y j 0) h
