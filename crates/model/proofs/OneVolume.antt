-- One volume for an image and a mount: the superblock shows the numbers and the used count, and with them there is one tree.
use mathlib.Core.Path.{◌≡◌, refl, sym, ap, ◌∙◌, subst}
use mathlib.Core.List.{List, [], ◌∷◌, ◌++◌}
use Prim.Native.Nat.{ℕ, ◌+◌, ◌-◌, ◌*◌, ◌^◌, ◌≤◌, ◌<◌}
use native.Mathlib.Omega.{arith}
use lib.ListN.{length, take, drop, replicate, length-take, length-drop}
use lib.Seq.{ext_get_or, get_or-take, get_or-drop}
use Rattle.wire.specs.Be.{bytes}
use Rattle.wire.specs.Pick.{same}
use Rattle.wire.proofs.Numbers.{length_bytes}
use Rattle.wire.proofs.Picks.{same_refl}
use Rattle.model.specs.Tree.{Tree, find}
use Rattle.model.specs.Render.{blocks, Shows, padded}
use Rattle.model.specs.Geometry.{Mount, Geo, block_size, mounted, data_at, set_bits, signature, super_bytes, geo_at, version_at, code_at, count_at, used_count, Sound, open_refusal}
use Rattle.model.specs.Volume.{Laid, Volume, WellFormed, max_depth}
use Rattle.model.proofs.Areas.{few, area, size_large, block_inside, volume_bits, volume_laid}
use Rattle.model.proofs.Commit.{shows_one, shows_two}
use Rattle.model.proofs.Entries.{be_shown}
use Rattle.model.proofs.Opens.{sound_opens}
use Rattle.model.proofs.Sums.{laid_few}
use Rattle.model.proofs.Unique.{laid_one}

-- ---- what the superblock shows

-- The superblock at byte k: signature, version and size code, then n, then the used count u.
pub record TopReads (I : List ℕ) (k : ℕ) (g : Geo) (u : ℕ) : Type 0 where
  pub mark : Shows I k (signature ++ (g.version ∷ (g.code ∷ [])))
  pub count : Shows I (k + 10) (bytes 4 g.n)
  pub used : Shows I (k + 14) (bytes 4 u)

pub top_reads : (I : List ℕ) (k : ℕ) (g : Geo) (u : ℕ) → Shows I k (super_bytes g u) → TopReads I k g u
unfolding super_bytes padded
top_reads I k g u s =
    let m : List ℕ = signature ++ (g.version ∷ (g.code ∷ [])) in
    let n : List ℕ = bytes 4 g.n in
    let w : List ℕ = bytes 4 u in
    let ln : length n ≡ 4 = length_bytes 4 g.n in
    let a : Shows I k (m ++ (n ++ w)) = shows_one I k (m ++ (n ++ w)) (replicate (block_size g - length (m ++ (n ++ w))) 0) s in
    let b : Shows I (k + 10) (n ++ w) = shows_two I k m (n ++ w) a in
    let e : k + 10 + length n ≡ k + 14 = omega arith in
    record {
      mark = shows_one I k m (n ++ w) a;
      count = shows_one I (k + 10) n w b;
      used = subst (λ (j : ℕ). Shows I j w) e (shows_two I (k + 10) n w b);
    }

-- The bytes that an image shows are a part of it, if it is long enough.
pub shown_part : (I : List ℕ) (k : ℕ) (l : List ℕ) → k + length l ≤ length I → Shows I k l → take (length l) (drop k I) ≡ l
shown_part I k l h s =
    let n : length (take (length l) (drop k I)) ≡ length l = simp (length-take, length-drop) (omega arith) in
    ext_get_or 0 (take (length l) (drop k I)) l n
    (λ i q. get_or-take (length l) (drop k I) i 0 (omega arith) ∙ get_or-drop k I i 0 ∙ s i (omega arith))

module _ (g : Geo) (I : List ℕ) (d : ℕ) (t : Tree d) (u : ℕ) (l : Laid g I d t u) where
  top_is : TopReads I (block_size g * g.K) g u
  top_is = top_reads I (block_size g * g.K) g u l.top

  laid_count : count_at (mounted g) I ≡ g.n
  unfolding count_at
  laid_count = be_shown I (block_size g * g.K + 10) 4 g.n (omega (arith, few g (length I) l.sound)) top_is.count

  laid_version : version_at (mounted g) I ≡ g.version
  unfolding version_at
  laid_version = top_is.mark 8 (omega arith)

  laid_code : code_at (mounted g) I ≡ g.code
  unfolding code_at
  laid_code = top_is.mark 9 (omega arith)

  -- The numbers are those that the superblock says.
  laid_geo : g ≡ geo_at (mounted g) I
  laid_geo = λ i. record { K = g.K; n = sym laid_count i; version = sym laid_version i; code = g.code }

  -- So is the used count, where four bytes hold it.
  laid_used : u < 2 ^ 32 → used_count g I ≡ u
  unfolding used_count
  laid_used h = be_shown I (block_size g * g.K + 14) 4 u h top_is.used

  -- An image that lays out a tree gives none of refusals 1, 2, 3.
  laid_opens : open_refusal (mounted g) I ≡ 0
  laid_opens =
      let M : Mount = mounted g in
      let s : Sound (geo_at M I) (length I) = subst (λ (h : Geo). Sound h (length I)) laid_geo l.sound in
      let m : Shows I (block_size g * g.K) signature = shows_one I (block_size g * g.K) signature (g.version ∷ (g.code ∷ [])) top_is.mark in
      let b : block_size g * g.K + block_size g ≤ length I
      = block_inside g (length I) l.sound g.K (omega (arith, l.sound.room)) in
      let p : take 8 (drop (block_size g * g.K) I) ≡ signature
      = shown_part I (block_size g * g.K) signature (omega (arith, b, size_large g)) m in
      sound_opens M I s (record { letters = ap (λ (x : List ℕ). same x signature) p ∙ same_refl signature; code = laid_code })

-- ---- one volume

-- The numbers of an image with its mount, whatever tree is laid out by them.
geo-one : (g h : Geo) (I : List ℕ) (d e : ℕ) (t : Tree d) (s : Tree e) (u w : ℕ) → Laid g I d t u → Laid h I e s w → mounted g ≡ mounted h → g ≡ h
geo-one g h I d e t s u w l m k = laid_geo g I d t u l ∙ ap (λ (z : Mount). geo_at z I) k ∙ sym (laid_geo h I e s w m)

-- The numbers and the tree of a well-formed image.
pub well_formed_one : (M : Mount) (I : List ℕ) (v w : WellFormed M I) → (v.numbers ≡ w.numbers) × (v.tree ≡ w.tree)
well_formed_one M I v w =
    let e : v.numbers ≡ w.numbers = geo-one _ _ I _ _ _ _ _ _ v.volume.laid w.volume.laid (v.here ∙ sym w.here) in
    let l : Volume w.numbers I max_depth v.tree = subst (λ (g : Geo). Volume g I max_depth v.tree) e v.volume in
    (e, laid_one w.numbers I max_depth v.tree w.tree _ _ l.laid w.volume.laid)

-- Its numbers are those that the superblock says.
pub well_formed_geo : (M : Mount) (I : List ℕ) (v : WellFormed M I) → v.numbers ≡ geo_at M I
well_formed_geo M I v = laid_geo _ I max_depth v.tree _ v.volume.laid ∙ ap (λ (k : Mount). geo_at k I) v.here

-- ---- the used count

-- No more blocks are reached than the data area has.
laid_blocks : (g : Geo) (I : List ℕ) (d : ℕ) (t : Tree d) (u : ℕ) → Laid g I d t u → length (blocks (block_size g) d t) ≤ g.n - data_at g
unfolding find
laid_blocks g I d t u l = laid_few g I d t u l [] (d, t) refl

module _ (g : Geo) (I : List ℕ) (d : ℕ) (t : Tree d) (v : Volume g I d t) where
  -- D and the blocks that are reached are n at most.
  pub used_in : data_at g + length (blocks (block_size g) d t) ≤ g.n
  used_in = omega (arith, laid_blocks g I d t _ v.laid, (area g (length I) v.laid.sound).some_data)

  -- The used count that is read is D and the number of blocks that are reached,
  pub used_is : used_count g I ≡ data_at g + length (blocks (block_size g) d t)
  used_is = laid_used g I d t _ (volume_laid g I d t v) (omega (arith, used_in, few g (length I) v.laid.sound))

  -- and, in W5's words, D and the number of set bits,
  pub used_set : used_count g I ≡ data_at g + set_bits I g
  used_set = used_is ∙ ap (λ (z : ℕ). data_at g + z) (sym (volume_bits g I d t v))

-- ---- opening

-- A well-formed image gives none of refusals 1, 2, 3.
pub well_formed_opens : (M : Mount) (I : List ℕ) → WellFormed M I → open_refusal M I ≡ 0
well_formed_opens M I v = subst (λ (k : Mount). open_refusal k I ≡ 0) v.here (laid_opens _ I max_depth v.tree _ v.volume.laid)
