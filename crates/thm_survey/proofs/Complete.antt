-- The check finds the tree that an image shows.
use mathlib.Core.Path.{◌≡◌, refl, sym, ap, ◌∙◌}
use mathlib.Core.Option.{none, some}
use mathlib.Core.List.{List, [], ◌∷◌}
use Prim.Native.Nat.{ℕ, zero, suc, ◌+◌, ◌-◌, ◌*◌, ◌^◌, ◌≤◌, ◌<◌}
use native.Mathlib.Nat.{mul-suc, mul_comm, mul-le-mul_left}
use native.Mathlib.Omega.{arith}
use lib.ListN.{length}
use Rattle.block.specs.Block.{Area}
use Rattle.model.specs.Tree.{Block, Tree, sum}
use Rattle.model.specs.Render.{View, blocks_at, dir_pieces, view, render, count, blocks, ShowsAll}
use Rattle.model.specs.Geometry.{area_of, Geo, block_size, data_at, Sound}
use Rattle.model.specs.Volume.{GoodDir, GoodBelow, GoodTree, Laid}
use Rattle.model.proofs.Areas.{area, size_known}
use Rattle.model.proofs.Counts.{count_cons, count_none, tally, count_self}
use Rattle.model.proofs.Sums.{sum_long}
use Rattle.thm_survey.specs.Survey.{survey}
use Rattle.thm_survey.proofs.CompleteLaws.{Free, Yields, free_as, free_left, Ground, address_small}
use Rattle.thm_survey.proofs.CompleteCells.{free_few}
use Rattle.thm_survey.proofs.CompleteBlocks.{own, own_count, own_long}
use Rattle.thm_survey.proofs.CompleteDirs.{inside, inner, dir_parts, find_check}

-- ---- a directory's size fits its field

module _ {X : Type 0} {A : Area} {I : List ℕ} (g : Ground A I) (v : View X) (S : X → Type 0) where
  dir_fits : (bs : List (Block X)) (seen : List ℕ) → GoodDir A.size S bs → Free A seen (inside (dir_pieces A.size v bs)) → ((blocks_at bs < 2 ^ 32) × (blocks_at bs ≡ 0 → ⊥)) × (sum bs < 2 ^ 32)
  unfolding blocks_at own
  dir_fits [] seen a f = absurd a.packed
  dir_fits (b ∷ bs) seen a f =
      let c : ℕ → ℕ = own_count (b ∷ bs) in
      let m : ℕ → ℕ = inside (inner v (b ∷ bs)) in
      let q : Free A seen c = free_left c m (free_as (inside (dir_pieces A.size v (b ∷ bs))) (λ i. c i + m i) (λ i. dir_parts A.size v i (b ∷ bs)) f) in
      let h : (A.first ≤ b.at) × (b.at < A.end) = q.range b.at (omega (arith, count_cons b.at b.at (own bs), count_self b.at)) in
      let k : ℕ = length (b ∷ bs) in
      let l : suc k ≤ A.end = omega (arith, own_long (b ∷ bs), free_few seen (own (b ∷ bs)) q, g.first) in
      let w : (A.size - 5) * k ≤ A.size * k = omega (arith, mul_comm (A.size - 5) k, mul_comm A.size k, mul-le-mul_left k (let e : A.size - 5 ≤ A.size = omega arith in e)) in
      ((address_small g b.at h.1, λ z. omega (arith, g.first, h.0)), omega (arith, sum_long A.size S (b ∷ bs) a.all, w, mul-le-mul_left A.size l, mul-suc A.size k, mul_comm A.size A.end, g.few, g.known.least))

module _ {A : Area} {I : List ℕ} (g : Ground A I) where
  -- by depth
  found_below : (d : ℕ) (t : Tree d) (seen : List ℕ) → GoodTree A.size d t → ShowsAll A.size I (render A.size d t) → Free A seen (inside (render A.size d t))
      → Yields (survey A I d (blocks_at t) seen) t seen (inside (render A.size d t))
  unfolding survey render view GoodBelow
  found_below zero t seen a s r =
      find_check g (view A.size zero) (GoodBelow A.size zero) (λ _ _. none) (λ x. absurd x)
      (record { sum_is = λ x. absurd x; fits = λ x. absurd x; finds = λ x. absurd x }) t seen a s r
  found_below (suc d) t seen a s r =
      find_check g (view A.size (suc d)) (GoodBelow A.size (suc d)) (survey A I d) sum
      (record {
        sum_is = λ x. refl;
        fits = λ x z b f. dir_fits g (view A.size d) (GoodBelow A.size d) x z b f;
        finds = λ x z b h f. found_below d x z b h f;
      }) t seen a s r

  -- Where an image shows a good tree, whose blocks are in the area, none twice, and claimed by nobody, the check finds that very tree, and
  -- claims its blocks besides those that were claimed.
  pub survey_complete : (d : ℕ) (t : Tree d) (seen : List ℕ) → GoodTree A.size d t → ShowsAll A.size I (render A.size d t) → ((i : ℕ) → 1 ≤ count i (blocks A.size d t) → (A.first ≤ i) × (i < A.end))
      → ((i : ℕ) → count i seen + count i (blocks A.size d t) ≤ 1)
      → (s : List ℕ) × (survey A I d (blocks_at t) seen ≡ some (record { found = t; seen = s })) × ((i : ℕ) → count i s ≡ count i seen + count i (blocks A.size d t))
  unfolding tally
  survey_complete d t seen a s r o =
      let f = found_below d t seen a s (record { range = r; once = o }) in
      (f.now, f.is, f.counts)

-- The numbers of a sound superblock are such a ground,
sound_ground : (g : Geo) (I : List ℕ) → Sound g (length I) → Ground (area_of g) I
sound_ground g I h =
    record {
      known = size_known g (length I) h;
      first = omega (arith, (area g (length I) h).maps);
      inside = h.inside_image;
      few = omega (arith, h.inside_image, h.limit);
    }

-- and so the check finds the tree of every volume that is laid out, from its root on and with nothing claimed before.
pub laid_found : (g : Geo) (I : List ℕ) (d : ℕ) (t : Tree d) (u : ℕ) → Laid g I d t u
    → (s : List ℕ) × (survey (area_of g) I d (data_at g) [] ≡ some (record { found = t; seen = s })) × ((i : ℕ) → count i s ≡ count i (blocks (block_size g) d t))
laid_found g I d t u l =
    let f = survey_complete (sound_ground g I l.sound) d t [] l.good l.shown l.range (λ i. omega (arith, count_none i, l.once i)) in
    (f.0, ap (λ (a : ℕ). survey (area_of g) I d a []) (sym l.root) ∙ f.1, λ i. omega (arith, f.2 i, count_none i))
