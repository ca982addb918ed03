-- The survey is sound: what it finds is a good tree that the image shows, and exactly its blocks were claimed.
use mathlib.Core.Path.{◌≡◌, refl}
use mathlib.Core.Option.{none, some}
use mathlib.Core.List.{List, []}
use Prim.Native.Nat.{ℕ, zero, suc, ◌+◌, ◌*◌, ◌≤◌, ◌<◌}
use native.Mathlib.Omega.{arith}
use lib.ListN.{length}
use Rattle.block.specs.Block.{Area}
use Rattle.model.specs.Tree.{Below, Tree, sum}
use Rattle.model.specs.Render.{view, render, blocks, count, Shows}
use Rattle.model.specs.Geometry.{area_of, Geo, block_size, data_at, map_bits, super_bytes, Sound}
use Rattle.model.specs.Volume.{GoodBelow, Laid}
use Rattle.model.proofs.Areas.{size_large}
use Rattle.model.specs.Steps.{Bytes}
use Rattle.model.proofs.Counts.{count_none}
use Rattle.thm_survey.specs.Survey.{Claimed, survey}
use Rattle.thm_survey.specs.Found.{Finds}
use Rattle.thm_survey.proofs.SoundLaws.{Each, each_none}
use Rattle.thm_survey.proofs.SoundDirs.{BelowFound, CheckFound, check_found}

module _ (A : Area) (I : List ℕ) (large : 5 ≤ A.size) (all_bytes : Bytes I) (fits : A.end * A.size ≤ length I) where
  tree_found : (d a : ℕ) (seen : List ℕ) → Each (CheckFound A I (view A.size d) (GoodBelow A.size d) a seen) (survey A I d a seen)
  unfolding survey
  tree_found zero a seen =
      check_found A I (view A.size zero) (GoodBelow A.size zero) large all_bytes fits (λ _ _. none) (λ x. absurd x) (λ x. absurd x)
      (λ b s. each_none (BelowFound A I (view A.size zero) (GoodBelow A.size zero) b s)) a seen
  tree_found (suc d) a seen =
      check_found A I (view A.size (suc d)) (GoodBelow A.size (suc d)) large all_bytes fits (survey A I d) sum same_size
      (λ b s. record { is = λ c f. as_below b s c ((tree_found d b s).is c f) }) a seen
    where
      same_size : (x : Below (suc d)) → sum x ≡ (view A.size (suc d)).size x
      same_size x = unfold view in refl

      as_below : (b : ℕ) (s : List ℕ) (c : Claimed (Tree d)) → CheckFound A I (view A.size d) (GoodBelow A.size d) b s c
          → BelowFound A I (view A.size (suc d)) (GoodBelow A.size (suc d)) b s c
      as_below b s c f = unfold view in unfold GoodBelow in record { good = f.good; shown = f.shown; first = f.first; claims = f.claims }

  -- What the survey finds from a on is a good tree that the image shows, and exactly its blocks were claimed.
  pub survey_sound : (d a : ℕ) (seen : List ℕ) (c : Claimed (Tree d)) → survey A I d a seen ≡ some c → Finds A I d a seen c
  unfolding render
  survey_sound d a seen c e =
      let f : CheckFound A I (view A.size d) (GoodBelow A.size d) a seen c = (tree_found d a seen).is c e in
      record { good = f.good; shown = f.shown; root = f.first; claimed = f.claims.counted; range = f.claims.range; once = f.claims.once }

  -- Where nothing was claimed before, the tree's blocks are distinct, and they are the claimed ones.
  pub survey_once : (d a : ℕ) (c : Claimed (Tree d)) → survey A I d a [] ≡ some c
      → (i : ℕ) → (count i (blocks A.size d c.found) ≤ 1) × (count i c.seen ≡ count i (blocks A.size d c.found))
  survey_once d a c e i =
      let f : Finds A I d a [] c = survey_sound d a [] c e in
      let z : count i [] ≡ 0 = count_none i in
      (omega (arith, f.claimed i, f.once i (omega arith)), omega (arith, f.claimed i))

-- With a sound superblock: where the survey from D on finds a tree and each block has a bit, the image holds it.
pub found_laid : (g : Geo) (I : List ℕ) (d u : ℕ) (c : Claimed (Tree d)) → Sound g (length I) → Bytes I → Shows I (block_size g * g.K) (super_bytes g u)
    → survey (area_of g) I d (data_at g) [] ≡ some c → ((i : ℕ) → 1 ≤ count i c.seen → i < data_at g + map_bits g) → Laid g I d c.found u
found_laid g I d u c s b t e m =
    let large : 5 ≤ block_size g = omega (arith, size_large g) in
    let f : Finds (area_of g) I d (data_at g) [] c = survey_sound (area_of g) I large b s.inside_image d (data_at g) [] c e in
    record {
      sound = s;
      top = t;
      root = f.root;
      shown = f.shown;
      once = λ i. (survey_once (area_of g) I large b s.inside_image d (data_at g) c e i).0;
      range = f.range;
      bits = λ i h. m i (omega (arith, h, (survey_once (area_of g) I large b s.inside_image d (data_at g) c e i).1));
      good = f.good;
    }
