-- What the code of the bitmap needs and gives, by the struct's own numbers.
use mathlib.Core.Path.{◌≡◌, refl, sym, ap, ◌∙◌, subst}
use mathlib.Core.List.{List, [], ◌∷◌}
use Prim.Native.Nat.{ℕ, suc, ◌+◌, ◌-◌, ◌*◌, ◌/◌, ◌≤◌, ◌<◌}
use native.Mathlib.Decide.{dec_lt}
use native.Mathlib.Omega.{arith}
use lib.ListN.{length, get_or, drop}
use Rattle.bits.specs.Bit.{bit, AllSet}
use Rattle.bits.specs.Find.{Lowest}
use Rattle.std.specs.Prelude.{Option, Some, None, IsSome}
use Rattle.block.specs.Block.{zeroed}
use Rattle.model.specs.Geometry.{Geo, block_size, map_at, data_at, reach, bit_end, used_count}
use Rattle.model.specs.Calls.{clear_from}
use Rattle.model.proofs.Free.{LowestClear, lowest_clear, clear_lowest}
use Rattle.super_block.specs.declared.SuperBlock.{SuperBlock}
use Rattle.super_block.specs.Super.{geo_of, Fit, counted}
use Rattle.super_block.proofs.Fits.{placed, from_is}
use Rattle.bitmap_block.specs.Bitmap.{mark, marked, clears, more, fewer, freed}
use Rattle.bitmap_block.proofs.Stores.{used_half, used_some, clears_first, first_in}

-- the reach is small
pub reach_few : {s : SuperBlock} {I : List ℕ} → Fit s I → s.reach ≤ 16777216
reach_few f = let p = placed f in omega arith

module _ {s : SuperBlock} {I : List ℕ} {at : ℕ} (f : Fit s I) (e : at ≡ s.size * s.bitmap.0) where
  -- the byte of an index that has a bit
  pub bit_place : (x : ℕ) → s.area.0 + x < bit_end (geo_of s) → at + x / 8 < length I
  bit_place x h = let p = placed f in omega (arith, f.area, f.bits)

  -- all bytes of the reach
  pub reach_place : at + (s.reach + 7) / 8 ≤ length I
  reach_place = let p = placed f in omega arith

  -- the hint, said of the place that code computes
  hint : {y : ℕ} → AllSet I (block_size (geo_of s) * map_at (geo_of s)) 0 y → AllSet I at 0 y
  hint {y} a = subst (λ (z : ℕ). AllSet I z 0 y) (sym (from_is f e)) a

  bit_is : (x : ℕ) → mark (geo_of s) I x ≡ bit I at x
  unfolding mark
  bit_is x = ap (λ (z : ℕ). bit I z x) (sym (from_is f e))

  -- what a search finds is the first of the clear ones
  pub first_at_lem : {x : ℕ} {r : Option ℕ} → Lowest I at s.reach r → r ≡ Some x → data_at (geo_of s) + x ≡ get_or (clears (geo_of s) I) 0 0
  unfolding clears
  first_at_lem {x} {r} l q =
      let m : Lowest I at s.reach (Some x) = subst (Lowest I at s.reach) q l in
      let d : ℕ = data_at (geo_of s) in
      let w : (y : ℕ) → d + y - d ≡ y = λ y. omega arith in
      let b : LowestClear (λ b. mark (geo_of s) I (b - d)) d (reach (geo_of s)) (d + x) (clear_from (λ b. mark (geo_of s) I (b - d)) (suc (d + x)) (d + reach (geo_of s) - suc (d + x)))
      = record {
        from = omega arith;
        below = omega (arith, m.0, f.reach);
        clear = ap (mark (geo_of s) I) (w x) ∙ bit_is x ∙ m.1;
        lowest = λ y p o z. omega (arith, m.2 (y - d) (omega arith), bit_is (y - d));
        above = refl;
      } in
      sym (ap (λ (c : List ℕ). get_or c 0 0) (lowest_clear (λ b. mark (geo_of s) I (b - d)) d (reach (geo_of s)) (d + x) _ b))

  -- where there is a clear one, one in reach is
  some_clear : 1 ≤ length (clears (geo_of s) I) → (P : Type 0) → ((y : ℕ) → y < s.reach → bit I at y ≡ 0 → P) → P
  unfolding clears
  some_clear h P k = go (clears (geo_of s) I) refl h
    where
      go : (c : List ℕ) → clear_from (λ b. mark (geo_of s) I (b - data_at (geo_of s))) (data_at (geo_of s)) (reach (geo_of s)) ≡ c → 1 ≤ length c → P
      go [] e j = absurd (omega arith)
      go (a ∷ c) e j =
          let o = clear_lowest (λ b. mark (geo_of s) I (b - data_at (geo_of s))) (data_at (geo_of s)) (reach (geo_of s)) a c e in
          k (a - data_at (geo_of s)) (omega (arith, o.from, o.below, f.reach)) (sym (bit_is (a - data_at (geo_of s))) ∙ o.clear)

  -- so it is found,
  pub found_one : (r : Option ℕ) → 1 ≤ length (clears (geo_of s) I) → Lowest I at s.reach r → IsSome r
  found_one (Some x) h l = refl
  found_one None h l = absurd (some_clear h ⊥ (λ y p z. omega (arith, l y p)))

  -- and a hint that holds is in reach
  pub hint_reach : (y : ℕ) → 1 ≤ length (clears (geo_of s) I) → AllSet I (block_size (geo_of s) * map_at (geo_of s)) 0 y → y ≤ s.reach
  hint_reach y h a = some_clear h (y ≤ s.reach) (λ x p z. go x p z (dec_lt x y))
    where
      go : (x : ℕ) → x < s.reach → bit I at x ≡ 0 → Dec (x < y) → y ≤ s.reach
      go x p z (yes l) = absurd (omega (arith, hint a x (omega arith) l))
      go x p z (no l) = omega arith

-- ---- between the stores

module _ {s : SuperBlock} {I : List ℕ} (x : ℕ) (f : Fit s I) (h : s.area.0 + x < bit_end (geo_of s)) where
  in_data : data_at (geo_of s) + x < bit_end (geo_of s)
  in_data = omega (arith, f.area)

  -- the block is zeroed and its bit stored
  half_is : (v : ℕ) {a : ℕ} {J L : List ℕ} → a ≡ s.area.0 + x → J ≡ zeroed s.size I a 1 → L ≡ marked (geo_of s) J x v → L ≡ marked (geo_of s) (zeroed (block_size (geo_of s)) I (data_at (geo_of s) + x) 1) x v
  half_is v p q r = r ∙ ap (λ (z : List ℕ). marked (geo_of s) z x v) (q ∙ ap (λ (z : ℕ). zeroed s.size I z 1) (p ∙ ap (λ (z : ℕ). z + x) f.area) ∙ ap (λ (z : ℕ). zeroed z I (data_at (geo_of s) + x) 1) f.size)

  half_used : (v : ℕ) {a : ℕ} {J L : List ℕ} → a ≡ s.area.0 + x → J ≡ zeroed s.size I a 1 → L ≡ marked (geo_of s) J x v → used_count (geo_of s) L ≡ used_count (geo_of s) I
  half_used v p q r = ap (used_count (geo_of s)) (half_is v p q r) ∙ used_half (geo_of s) I f.sound x in_data v

  -- set, or clear
  pub set_used : {a : ℕ} {J L : List ℕ} → a ≡ s.area.0 + x → J ≡ zeroed s.size I a 1 → L ≡ marked (geo_of s) J x 1 → used_count (geo_of s) I < s.blocks → used_count (geo_of s) L < s.blocks
  set_used p q r u = omega (arith, half_used 1 p q r)

  pub clear_used : {a k : ℕ} {J L : List ℕ} → a ≡ s.area.0 + x → J ≡ zeroed s.size I a k → L ≡ marked (geo_of s) J x 0 → k ≤ 1 → 0 < used_count (geo_of s) I → 0 < used_count (geo_of s) L
  clear_used {a} {k} {J} {L} p q r few u =
      let half : L ≡ marked (geo_of s) (zeroed (block_size (geo_of s)) I (data_at (geo_of s) + x) k) x 0
      = r ∙ ap (λ (z : List ℕ). marked (geo_of s) z x 0) (q ∙ (λ i. zeroed (f.size i) I ((p ∙ ap (λ (z : ℕ). z + x) f.area) i) k)) in
      omega (arith, ap (used_count (geo_of s)) half, used_some (geo_of s) I f.sound x in_data k few 0)

  -- and with the count stored too, the block is given back
  pub given_back : {a : ℕ} {J K L : List ℕ} → a ≡ s.area.0 + x → J ≡ zeroed s.size I a 1 → K ≡ marked (geo_of s) J x 0 → L ≡ fewer (geo_of s) K → L ≡ freed (geo_of s) I x
  unfolding freed
  given_back p q r l = l ∙ ap (fewer (geo_of s)) (half_is 0 p q r)

-- what was found is in the data, and has a bit
pub found_in : {s : SuperBlock} {I : List ℕ} (x : ℕ) → Fit s I → 1 ≤ length (clears (geo_of s) I) → data_at (geo_of s) + x ≡ get_or (clears (geo_of s) I) 0 0 → s.area.0 + x < bit_end (geo_of s)
found_in {s} {I} x f h e =
    omega (arith, f.area, first_in (geo_of s) I f.sound x (drop 1 (clears (geo_of s) I)) (clears_first (geo_of s) I x h e))

-- ---- the used count, as code stores it

module _ (g : Geo) (I J : List ℕ) (u : ℕ) (e : u ≡ used_count g I) where
  pub more_is : J ≡ counted g I (u + 1) → J ≡ more g I
  unfolding more
  more_is h = h ∙ ap (λ (v : ℕ). counted g I (v + 1)) e

  pub fewer_is : J ≡ counted g I (u - 1) → J ≡ fewer g I
  unfolding fewer
  fewer_is h = h ∙ ap (λ (v : ℕ). counted g I (v - 1)) e
