-- The test of W1 to W5 is passed exactly by a volume: there is a tree whose volume the image is.
use mathlib.Core.Path.{◌≡◌, refl, sym, ap, ◌∙◌, subst}
use mathlib.Core.Bool.{Bool, true, ◌&&◌}
use mathlib.Core.Option.{Option, none, some}
use mathlib.Core.List.{List, [], ◌∷◌}
use Prim.Native.Nat.{ℕ, zero, suc, ◌+◌, ◌-◌, ◌*◌, ◌≤◌, ◌<◌}
use native.Mathlib.Omega.{arith}
use native.Mathlib.Decide.{ℕ_discrete}
use lib.Dec.{ltb, eqb}
use lib.ListN.{length}
use borrow.Author.Tests.{eqb-true, eq-eqb, ltb-true, lt-ltb}
use Rattle.wire.specs.Pick.{zero_from}
use Rattle.wire.proofs.Picks.{not_both, and_both, both_and}
use Rattle.bits.specs.Bit.{bit}
use Rattle.model.specs.Tree.{Tree, then}
use Rattle.model.specs.Render.{count, blocks, Shows}
use Rattle.model.specs.Geometry.{area_of, Mount, Geo, block_size, map_at, data_at, map_bits, set_bits, used_count, geo_at, super_bytes, Sound, open_refusal}
use Rattle.model.specs.Volume.{max_depth, Volume, WellFormed}
use Rattle.model.specs.Steps.{Bytes}
use Rattle.model.proofs.Areas.{size_large}
use Rattle.model.proofs.Counts.{count_same, count_other, count_none, count_cons}
use Rattle.model.proofs.Lists.{not_some, then_some}
use Rattle.model.proofs.OneVolume.{well_formed_geo}
use Rattle.check_bitmap.proofs.Top.{top_shown, volume_rest, volume_count}
use Rattle.thm_survey.specs.Survey.{Claimed, survey, seen_of}
use Rattle.thm_survey.specs.Whole.{bits_are, all_below, bits_of, whole}
use Rattle.thm_survey.proofs.Sound.{survey_sound, survey_once, found_laid}
use Rattle.thm_survey.proofs.Complete.{laid_found}

-- ---- the bits

pub bits_told : (I : List ℕ) (from : ℕ) (f : ℕ → ℕ) (k : ℕ) → bits_are I from f k ≡ true → (x : ℕ) → x < k → bit I from x ≡ f x
unfolding bits_are
bits_told I from f zero h x l = absurd (omega arith)
bits_told I from f (suc k) h x l =
    let p = and_both (eqb (bit I from k) (f k)) (bits_are I from f k) h in
    go (eqb-true (bit I from k) (f k) p.0) (bits_told I from f k p.1 x) (ℕ_discrete x k)
  where
    go : bit I from k ≡ f k → (x < k → bit I from x ≡ f x) → Dec (x ≡ k) → bit I from x ≡ f x
    go q r (yes e) = ap (bit I from) e ∙ q ∙ ap f (sym e)
    go q r (no n) = r (omega arith)

pub bits_pass : (I : List ℕ) (from : ℕ) (f : ℕ → ℕ) (k : ℕ) → ((x : ℕ) → x < k → bit I from x ≡ f x) → bits_are I from f k ≡ true
unfolding bits_are
bits_pass I from f zero h = refl
bits_pass I from f (suc k) h = ap (λ (b : Bool). b && bits_are I from f k) (eq-eqb (bit I from k) (f k) (h k (omega arith))) ∙ bits_pass I from f k (λ x l. h x (omega arith))

pub below_told : (e : ℕ) (l : List ℕ) → all_below e l ≡ true → (i : ℕ) → 1 ≤ count i l → i < e
unfolding all_below
below_told e [] h i c = absurd (omega (arith, count_none i))
below_told e (a ∷ l) h i c =
    let p = and_both (ltb a e) (all_below e l) h in
    go (ltb-true a e p.0) (below_told e l p.1 i) (ℕ_discrete i a)
  where
    go : a < e → (1 ≤ count i l → i < e) → Dec (i ≡ a) → i < e
    go q r (yes z) = omega arith
    go q r (no z) = r (omega (arith, count_other i a l z))

pub below_pass : (e : ℕ) (l : List ℕ) → ((i : ℕ) → 1 ≤ count i l → i < e) → all_below e l ≡ true
unfolding all_below
below_pass e [] h = refl
below_pass e (a ∷ l) h =
    both_and (lt-ltb a e (h a (omega (arith, count_same a a l refl)))) (below_pass e l (λ i c. h i (omega (arith, count_cons i a l))))

-- ---- what was claimed

abbrev pub claims_of : Geo → List ℕ → Option (List ℕ)
claims_of g I = seen_of (survey (area_of g) I max_depth (data_at g) [])

seen_found : {X : Type 0} (o : Option (Claimed X)) (s : List ℕ) → seen_of o ≡ some s → (c : Claimed X) × (o ≡ some c) × (c.seen ≡ s)
unfolding seen_of then
seen_found none s e = absurd (not_some refl e)
seen_found (some c) s e = (c, refl, let q : c.seen ≡ s = cc in q)

-- of a found tree's blocks each is claimed once, and nothing else
found_once : (g : Geo) (I : List ℕ) → Sound g (length I) → Bytes I → (c : Claimed (Tree max_depth))
    → survey (area_of g) I max_depth (data_at g) [] ≡ some c → (i : ℕ) → count i c.seen ≡ count i (blocks (block_size g) max_depth c.found)
found_once g I s b c e i = (survey_once (area_of g) I (omega (arith, size_large g)) b s.inside_image max_depth (data_at g) c e i).1

-- no block past the volume is claimed
pub claimed_past : (g : Geo) (I : List ℕ) → Sound g (length I) → Bytes I → (seen : List ℕ) → claims_of g I ≡ some seen → (i : ℕ) → g.n ≤ i → count i seen ≡ 0
claimed_past g I s b seen e i l = go (seen_found _ seen e)
  where
    none_there : (c : Claimed (Tree max_depth)) → survey (area_of g) I max_depth (data_at g) [] ≡ some c
        → Dec (count i (blocks (block_size g) max_depth c.found) ≡ 0) → count i (blocks (block_size g) max_depth c.found) ≡ 0
    none_there c h (yes z) = z
    none_there c h (no z) =
        let f = survey_sound (area_of g) I (omega (arith, size_large g)) b s.inside_image max_depth (data_at g) [] c h in
        absurd (omega (arith, (f.range i (omega arith)).1))

    go : ((c : Claimed (Tree max_depth)) × (survey (area_of g) I max_depth (data_at g) [] ≡ some c) × (c.seen ≡ seen)) → count i seen ≡ 0
    go c = ap (count i) (sym c.2) ∙ found_once g I s b c.0 c.1 i ∙ none_there c.0 c.1 (ℕ_discrete (count i (blocks (block_size g) max_depth c.0.found)) 0)

-- ---- both directions

module _ (M : Mount) (I : List ℕ) (b : Bytes I) where
  abbrev g : Geo
  g = geo_at M I

  -- What passes is well formed.
  pub whole_sound : open_refusal M I ≡ 0 → Sound g (length I) → whole g I ≡ true → WellFormed M I
  unfolding whole bits_of
  whole_sound o s h = go (claims_of g I) refl
    where
      p : (zero_from I (block_size g * g.K + 18) (block_size g - 18) ≡ true) × ((bits_of g I (claims_of g I) && eqb (used_count g I) (data_at g + set_bits I g)) ≡ true)
      p = and_both (zero_from I (block_size g * g.K + 18) (block_size g - 18)) (bits_of g I (claims_of g I) && eqb (used_count g I) (data_at g + set_bits I g)) h

      q : (bits_of g I (claims_of g I) ≡ true) × (eqb (used_count g I) (data_at g + set_bits I g) ≡ true)
      q = and_both (bits_of g I (claims_of g I)) (eqb (used_count g I) (data_at g + set_bits I g)) p.1

      go : (x : Option (List ℕ)) → claims_of g I ≡ x → WellFormed M I
      go none e = absurd (not_both q.0 (ap (bits_of g I) e))
      go (some seen) e =
          let c = seen_found _ seen e in
          let t : Shows I (block_size g * g.K) (super_bytes g (data_at g + set_bits I g)) = top_shown M I o b p.0 q.1 in
          let both = and_both _ _ (sym (ap (bits_of g I) e) ∙ q.0) in
          let marked = bits_told I (block_size g * map_at g) (λ x. count (data_at g + x) seen) (map_bits g) both.0 in
          let below : (i : ℕ) → 1 ≤ count i c.0.seen → i < data_at g + map_bits g
          = λ i h. below_told (data_at g + map_bits g) seen both.1 i (omega (arith, h, ap (count i) c.2)) in
          record {
            numbers = g;
            here = refl;
            tree = c.0.found;
            volume = record {
              laid = found_laid g I max_depth (data_at g + set_bits I g) c.0 s b t c.1 below;
              marked = λ x l. marked x l ∙ ap (count (data_at g + x)) (sym c.2) ∙ found_once g I s b c.0 c.1 (data_at g + x);
            };
          }

  -- What is well formed passes.
  pub whole_complete : WellFormed M I → whole g I ≡ true
  unfolding whole bits_of
  whole_complete w = passes (subst (λ (h : Geo). Volume h I max_depth w.tree) (well_formed_geo M I w) w.volume)
    where
      passes : Volume g I max_depth w.tree → whole g I ≡ true
      passes v =
          let f = laid_found g I max_depth w.tree _ v.laid in
          let e : claims_of g I ≡ some f.0 = unfold seen_of in then_some (λ c. some c.seen) f.1 in
          let z : bits_of g I (claims_of g I) ≡ true
          = ap (bits_of g I) e
          ∙ both_and (bits_pass I (block_size g * map_at g) (λ x. count (data_at g + x) f.0) (map_bits g) (λ x l. v.marked x l ∙ sym (f.2 (data_at g + x))))
          (below_pass (data_at g + map_bits g) f.0 (λ i h. v.laid.bits i (omega (arith, h, f.2 i)))) in
          ap (λ (x : Bool). x && (bits_of g I (claims_of g I) && eqb (used_count g I) (data_at g + set_bits I g))) (volume_rest g I max_depth w.tree v)
          ∙ ap (λ (x : Bool). x && eqb (used_count g I) (data_at g + set_bits I g)) z
          ∙ volume_count g I max_depth w.tree v
