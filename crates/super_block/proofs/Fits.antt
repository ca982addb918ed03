-- What `Fit` gives: the places of superblock, bitmap and data in the image, and the volume of an image that was checked.
use mathlib.Core.Path.{◌≡◌, refl, sym, ap, ◌∙◌, subst}
use mathlib.Core.Bool.{Bool, true, false, ◌&&◌}
use mathlib.Core.List.{List}
use lib.Dec.{leb, ltb}
use borrow.Author.Tests.{leb-true, ltb-true}
use Prim.Native.Nat.{ℕ, suc, ◌+◌, ◌-◌, ◌*◌, ◌≤◌, ◌<◌}
use native.Mathlib.Nat.{mul-suc, mul-add, mul_comm, mul-le-mul_left}
use native.Mathlib.Omega.{arith}
use lib.ListN.{length}
use Rattle.model.specs.Geometry.{Mount, Geo, block_size, map_at, area_of, numbered, geo_at, format_geo, Sound, open_refusal, format_refusal}
use Rattle.model.proofs.Areas.{size_known, area, few}
use Rattle.model.proofs.Opens.{opens_sound, format_sound}
use Rattle.model.specs.Volume.{Volume, max_depth}
use Rattle.model.proofs.OneVolume.{well_formed_geo}
use Rattle.super_block.specs.declared.SuperBlock.{SuperBlock}
use Rattle.super_block.specs.Super.{mount_of, geo_of, area_in, super_block, Fit, Ready}

-- the superblock and the block behind it are in the image
top_in : (g : Geo) (len : ℕ) → Sound g len → block_size g * g.K + 2 * block_size g ≤ len
top_in g len s =
    let h : g.K + 2 ≤ g.n = omega (arith, s.room) in
    omega (arith, s.inside_image, mul_comm g.n (block_size g), mul-le-mul_left (block_size g) h, mul-add (block_size g) g.K 2)

-- the struct of sound numbers fits
pub fit_of : (g : Geo) (I : List ℕ) → Sound g (length I) → Fit (super_block g) I
fit_of g I s =
    record {
      size = refl;
      known = size_known g (length I) s;
      bitmap = refl;
      area = refl;
      bits = refl;
      reach = refl;
      sound = s;
      inside = rw mul_comm s.inside_image;
      top = top_in g (length I) s;
    }

-- so does a struct that was read from the image, or made for it
pub opened_fit : (M : Mount) (I : List ℕ) (s : SuperBlock) → open_refusal M I ≡ 0 → s ≡ super_block (geo_at M I) → Fit s I
opened_fit M I s e f = subst (λ (x : SuperBlock). Fit x I) (sym f) (fit_of (geo_at M I) I (opens_sound M I e).0)

pub made_fit : (M : Mount) (I : List ℕ) (s : SuperBlock) → format_refusal M (length I) ≡ 0 → s ≡ super_block (format_geo M (length I)) → Fit s I
made_fit M I s e f = subst (λ (x : SuperBlock). Fit x I) (sym f) (fit_of (format_geo M (length I)) I (format_sound M (length I) e))

-- its numbers are then those of the image, or those that are made
pub opened-geo : (M : Mount) (I : List ℕ) (s : SuperBlock) → s ≡ super_block (geo_at M I) → geo_of s ≡ geo_at M I
opened-geo M I s f = ap geo_of f

pub made_geo : (M : Mount) (len : ℕ) (s : SuperBlock) → s ≡ super_block (format_geo M len) → geo_of s ≡ format_geo M len
made_geo M len s f = ap geo_of f

-- it goes by the image's length alone
pub fit_long : {s : SuperBlock} {I J : List ℕ} → length J ≡ length I → Fit s I → Fit s J
fit_long {s} e f =
    record {
      size = f.size;
      known = f.known;
      bitmap = f.bitmap;
      area = f.area;
      bits = f.bits;
      reach = f.reach;
      sound = subst (Sound (geo_of s)) (sym e) f.sound;
      inside = omega (arith, f.inside);
      top = omega (arith, f.top);
    }

-- the areas in the image, by the struct's own numbers
pub record Placed (s : SuperBlock) (I : List ℕ) : Type 0 where
  pub few : s.blocks ≤ 8388608
  pub bytes : s.size * s.blocks ≤ 4294967296
  pub map : s.size * s.bitmap.0 + s.size * (s.area.0 - s.bitmap.0) ≤ length I
  pub after : s.bitmap.0 ≡ s.addr.0 + 2
  pub maps : s.bitmap.0 < s.area.0
  pub some_data : s.area.0 < s.blocks
  pub reached : s.area.0 + s.reach ≤ s.blocks
  -- the bitmap's bits: how many, one at least for the root, and one for each index in reach
  pub bits : s.bits ≡ 8 * (s.size * (s.area.0 - s.bitmap.0))
  pub some_bits : 0 < s.bits
  pub has_bits : s.reach ≤ s.bits
  pub few_bits : s.bits ≤ s.blocks + 8 * s.size

pub placed : {s : SuperBlock} {I : List ℕ} → Fit s I → Placed s I
placed {s} {I} f =
    let a = area (geo_of s) (length I) f.sound in
    let i = f.inside in
    let b = f.bitmap in
    let d = f.area in
    let some_data : s.area.0 < s.blocks = omega (arith, a.some_data) in
    record {
      few = few (geo_of s) (length I) f.sound;
      bytes = omega (arith, f.sound.limit);
      map =
          let m : s.bitmap.0 < s.area.0 = omega (arith, a.maps) in
          let h : s.bitmap.0 + (s.area.0 - s.bitmap.0) ≤ s.blocks = omega arith in
          omega (arith, mul-le-mul_left s.size h, mul-add s.size s.bitmap.0 (s.area.0 - s.bitmap.0));
      after = b;
      maps = omega (arith, a.maps);
      some_data = some_data;
      reached = omega (arith, a.reached, f.reach);
      bits = rw (f.size, b, d) f.bits;
      some_bits = omega (arith, f.bits, a.some_bits);
      has_bits = omega (arith, f.bits, f.reach, a.has_bits);
      few_bits = omega (arith, f.bits, f.size, a.few_bits);
    }

-- the area is that of the numbers,
pub area_is : {s : SuperBlock} {I : List ℕ} → Fit s I → area_in s ≡ area_of (geo_of s)
area_is {s} f = λ i. record { size = f.size i; first = f.area i; end = s.blocks }

-- the bitmap begins where the definitions have it,
pub from_is : {s : SuperBlock} {I : List ℕ} {at : ℕ} → Fit s I → at ≡ s.size * s.bitmap.0 → at ≡ block_size (geo_of s) * map_at (geo_of s)
from_is {s} f e = e ∙ ap (λ (a : ℕ). s.size * a) f.bitmap ∙ ap (λ (z : ℕ). z * map_at (geo_of s)) f.size

-- there is a data area,
pub area_inside : {s : SuperBlock} {I : List ℕ} → Fit s I → s.area.0 ≤ s.blocks
area_inside f = omega (arith, (placed f).some_data)

-- blocks are few,
pub few_blocks : {s : SuperBlock} {I : List ℕ} → Fit s I → s.blocks ≤ 8388608
few_blocks f = (placed f).few

-- and each lies in the image, and in every image of its length
pub fit_inside : (s : SuperBlock) (I J : List ℕ) (a b : ℕ) → Fit s I → length J ≡ length I → a ≡ b → b < s.blocks → s.size * a + s.size ≤ length J
fit_inside s I J a b f e q h =
    let k : suc a ≤ s.blocks = omega arith in
    omega (arith, f.inside, mul-le-mul_left s.size k, mul-suc s.size a)

-- The volume of a checked image, by the struct's own numbers.
pub ready_volume : (s : SuperBlock) (I : List ℕ) (r : Ready s I) → Volume (geo_of s) I max_depth r.well.tree
ready_volume s I r =
    let w = r.well in
    let e : geo_at (mount_of s) I ≡ geo_of s = λ i. numbered (mount_of s) (sym r.version i) (sym r.count i) in
    subst (λ (g : Geo). Volume g I max_depth w.tree) (well_formed_geo (mount_of s) I w ∙ e) w.volume

-- ---- whether a block is one of the data area's, as `has` tells

has_both : (p q : Bool) → (p && q) ≡ true → (p ≡ true) × (q ≡ true)
has_both true true e = (refl, refl)
has_both true false e = (refl, e)
has_both false q e = (e, absurd (let z : ◌≡◌ {A = ℕ} 0 1 = cc in omega arith))

module _ (b : Bool) (first a end : ℕ) (e : b ≡ (leb first a && ltb a end)) (t : b ≡ true) where
  pub has_first : first ≤ a
  has_first = leb-true _ _ (has_both (leb first a) (ltb a end) (sym e ∙ t)).0

  pub has_below : a < end
  has_below = ltb-true _ _ (has_both (leb first a) (ltb a end) (sym e ∙ t)).1
