-- What the code needs and gives: one law for each place.
use mathlib.Core.Path.{◌≡◌, sym, ap, ◌∙◌}
use mathlib.Core.Bool.{Bool, true, false}
use mathlib.Core.List.{List}
use Prim.Native.Nat.{ℕ, suc, ◌+◌, ◌-◌, ◌≤◌, ◌<◌}
use native.Mathlib.Omega.{arith}
use lib.ListN.{length}
use borrow.Author.Tests.{eq-eqb, ne_eqb, le-leb, lt-leb}
use Rattle.wire.proofs.Picks.{pick_true, pick_false}
use Rattle.block.specs.Block.{Area, next}
use Rattle.model.specs.Geometry.{Geo, area_of, block_size, bit_end, used_count}
use Rattle.super_block.specs.declared.SuperBlock.{SuperBlock}
use Rattle.super_block.specs.Super.{area_in, geo_of, Fit}
use Rattle.super_block.proofs.Fits.{fit_long, area_is}
use Rattle.bitmap_block.specs.Bitmap.{freed}
use Rattle.read_dir.specs.Walk.{in_area}
use Rattle.chain_store.specs.Chain.{released, chain_freed}

pub still_fit : (s : SuperBlock) (I J : List ℕ) → Fit s I → length J ≡ length I → Fit s J
still_fit s I J f e = fit_long e f

-- ---- one block given back

-- a block whose index is one of the bits lies below the end of those that have a bit
index_end : (s : SuperBlock) (I : List ℕ) (a x : ℕ) → Fit s I → x ≡ a - s.area.0 → s.area.0 ≤ a → a < s.blocks → x < s.bits → a < bit_end (geo_of s)
index_end s I a x f e h k m = omega (arith, f.bits, f.area)

pub release_none : (g : Geo) (I : List ℕ) (a r : ℕ) → r ≡ used_count g I → r ≡ 0 → I ≡ released g I a
unfolding released
release_none g I a r e z = sym (pick_true _ _ (rw (eq-eqb (used_count g I) 0 (sym e ∙ z))))

pub release_bare : (s : SuperBlock) (I : List ℕ) (a r x : ℕ) → Fit s I → r ≡ used_count (geo_of s) I → (r ≡ 0 → ⊥) → x ≡ a - s.area.0
    → s.area.0 ≤ a → s.bits ≤ x → I ≡ released (geo_of s) I a
unfolding released
release_bare s I a r x f e z q l h =
    sym (pick_true _ _ (rw (ne_eqb (used_count (geo_of s) I) 0 (λ w. z (e ∙ w)), le-leb (bit_end (geo_of s)) a (omega (arith, f.bits, f.area)))))

pub release_some : (s : SuperBlock) (I J : List ℕ) (a r x : ℕ) → Fit s I → r ≡ used_count (geo_of s) I → (r ≡ 0 → ⊥) → x ≡ a - s.area.0
    → s.area.0 ≤ a → a < s.blocks → x < s.bits → J ≡ freed (geo_of s) I x → J ≡ released (geo_of s) I a
unfolding released
release_some s I J a r x f e z q l m k h =
    h ∙ ap (freed (geo_of s) I) (q ∙ ap (λ (d : ℕ). a - d) f.area)
    ∙ sym (pick_false _ _ (rw (ne_eqb (used_count (geo_of s) I) 0 (λ w. z (e ∙ w)), lt-leb (bit_end (geo_of s)) a (index_end s I a x f q l m k))))

pub some_used : (g : Geo) (I : List ℕ) (r : ℕ) → r ≡ used_count g I → (r ≡ 0 → ⊥) → 0 < used_count g I
some_used g I r e z = go (used_count g I) (λ w. z (e ∙ w))
  where
    go : (n : ℕ) → (n ≡ 0 → ⊥) → 0 < n
    go n h = omega arith

pub index_inside : (s : SuperBlock) (I : List ℕ) (a x : ℕ) → Fit s I → x ≡ a - s.area.0 → s.area.0 ≤ a → a < s.blocks → x < s.bits
    → s.area.0 + x < bit_end (geo_of s)
index_inside s I a x f e h k m = omega (arith, index_end s I a x f e h k m)

-- ---- a chain freed: after i of k blocks, what is left to free is what was to be freed

pub chain_begins : (g : Geo) (I : List ℕ) (k a : ℕ) → chain_freed g I (k - 0) a ≡ chain_freed g I k a
chain_begins g I k a = let e : k - 0 ≡ k = omega arith in ap (λ (n : ℕ). chain_freed g I n a) e

module _ (s : SuperBlock) (I J R : List ℕ) (k i b : ℕ) (f : Fit s I) (v : chain_freed (geo_of s) J (k - i) b ≡ R) where
  pub chain_end : k ≤ i → J ≡ R
  unfolding chain_freed
  chain_end h = let e : k - i ≡ 0 = omega arith in sym (ap (λ (n : ℕ). chain_freed (geo_of s) J n b) e) ∙ v

  module _ (h : i < k) where
    step : chain_freed (geo_of s) J (k - i) b ≡ chain_freed (geo_of s) J (suc (k - (i + 1))) b
    step = let e : k - i ≡ suc (k - (i + 1)) = omega arith in ap (λ (n : ℕ). chain_freed (geo_of s) J n b) e

    module _ (t : Bool) (e : t ≡ in_area (area_in s) J b) where
      inside : in_area (area_of (geo_of s)) J b ≡ t
      inside = sym (e ∙ ap (λ (A : Area). in_area A J b) (area_is f))

      pub chain_out : t ≡ false → J ≡ R
      unfolding chain_freed
      chain_out q = sym (step ∙ pick_false _ _ (inside ∙ q)) ∙ v

      pub chain_more : t ≡ true → (L : List ℕ) (to : ℕ) → to ≡ next s.size J b → L ≡ released (geo_of s) J b
          → chain_freed (geo_of s) L (k - (i + 1)) to ≡ R
      unfolding chain_freed
      chain_more q L to x z =
          let more : List ℕ = chain_freed (geo_of s) (released (geo_of s) J b) (k - (i + 1)) (next (block_size (geo_of s)) J b) in
          let first : chain_freed (geo_of s) J (suc (k - (i + 1))) b ≡ more = search (pick_true more J (inside ∙ q)) in
          (λ j. chain_freed (geo_of s) (z j) (k - (i + 1)) ((x ∙ ap (λ (B : ℕ). next B J b) f.size) j)) ∙ sym (step ∙ first) ∙ v
