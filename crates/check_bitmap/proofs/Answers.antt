-- What the code knows where it answers, by the struct's own numbers.
use mathlib.Core.Path.{◌≡◌, sym, ap, ◌∙◌}
use mathlib.Core.Bool.{Bool, true, false}
use mathlib.Core.List.{List}
use Prim.Native.Nat.{ℕ, ◌+◌, ◌-◌, ◌*◌, ◌/◌, ◌^◌, ◌≤◌, ◌<◌, min}
use native.Mathlib.Nat.{mul-add}
use native.Mathlib.Omega.{arith}
use lib.ListN.{length, take, drop}
use lib.Seq.{length-take-le}
use Rattle.wire.specs.Pick.{same, zero_from}
use Rattle.bits.specs.Bit.{ones}
use Rattle.bits.proofs.Bits.{ones-le}
use Rattle.super_block.specs.declared.SuperBlock.{SuperBlock}
use Rattle.super_block.specs.Super.{area_in, geo_of, Fit}
use Rattle.super_block.proofs.Fits.{placed, from_is, area_is, area_inside, few_blocks}
use Rattle.check_bitmap.specs.Tally.{mark_bytes, map_from, map_long, mark_long, both_long, agreed}

-- ---- the areas

-- the bitmap is as long as the definitions have it
long_is : {s : SuperBlock} {I : List ℕ} → Fit s I → s.size * (s.area.0 - s.bitmap.0) ≡ map_long (geo_of s)
long_is f = λ i. f.size i * (f.area i - f.bitmap i)

-- what is left of it past k bytes
past_long : {at from end l k m n : ℕ} → at ≡ from → end ≡ from + l → l ≡ k → m ≡ n → end - (at + m) ≡ k - n
past_long a b c d = omega arith

module _ {s : SuperBlock} {I : List ℕ} (f : Fit s I) where
  map_before : s.bitmap.0 ≤ s.area.0
  map_before = let p = placed f in omega arith

  -- the bitmap ends where the data begins
  map_end : s.size * s.bitmap.0 + s.size * (s.area.0 - s.bitmap.0) ≡ s.size * s.area.0
  map_end =
      let e : s.bitmap.0 + (s.area.0 - s.bitmap.0) ≡ s.area.0 = omega (arith, map_before) in
      sym (mul-add s.size s.bitmap.0 (s.area.0 - s.bitmap.0)) ∙ ap (λ (x : ℕ). s.size * x) e

  -- ---- the used count: at is where the bitmap begins, c how many of its bits are set

  module _ {at : ℕ} (e : at ≡ s.size * s.bitmap.0) where
    pub bits_in : at + (s.bits + 7) / 8 ≤ length I
    bits_in = let p = placed f in omega arith

    pub sum_fits : {c : ℕ} → c ≡ ones I at s.bits → s.area.0 + c < 2 ^ 32
    sum_fits {c} h = omega (arith, ones-le I at s.bits, (placed f).few_bits, area_inside f, few_blocks f, f.known.most)

-- ---- the bitmap: m bytes of marks in the work buffer W, c of them as the bitmap has them too

module _ {s : SuperBlock} {I : List ℕ} {m c at : ℕ} (W : List ℕ) (f : Fit s I) (h : mark_bytes (area_in s) ≤ length W)
    (e : m ≡ mark_bytes (area_in s)) (ec : c ≡ min m (s.bits / 8)) (a : at ≡ s.size * s.bitmap.0) where
  took : length (take c W) ≡ c
  took = length-take-le c W (omega arith)

  pub marks_in : at + length (take c W) ≤ length I
  marks_in = let p = placed f in omega (arith, took)

  at_is : at ≡ map_from (geo_of s)
  at_is = from_is f a

  m_is : m ≡ mark_long (geo_of s)
  m_is = e ∙ ap mark_bytes (area_is f)

  map_is : s.bits / 8 ≡ map_long (geo_of s)
  map_is = omega (arith, f.bits)

  c_is : c ≡ both_long (geo_of s)
  c_is = ec ∙ (λ i. min (m_is i) (map_is i))

  -- the comparison is the first part of the test
  compared : {b : Bool} → b ≡ same (take (length (take c W)) (drop at I)) (take c W)
      → b ≡ same (take (both_long (geo_of s)) (drop (map_from (geo_of s)) I)) (take (both_long (geo_of s)) W)
  compared q =
      q ∙ ap (λ (z : ℕ). same (take z (drop at I)) (take c W)) took ∙ ap (λ (z : ℕ). same (take c (drop z I)) (take c W)) at_is
      ∙ ap (λ (z : ℕ). same (take z (drop (map_from (geo_of s)) I)) (take z W)) c_is

  -- the marks that have no bit the second
  left_over : {b : Bool} → b ≡ zero_from W c (m - c) → b ≡ zero_from W (both_long (geo_of s)) (mark_long (geo_of s) - both_long (geo_of s))
  left_over q = q ∙ (λ i. zero_from W (c_is i) (m_is i - c_is i))

  -- and the bytes past the marks the third
  module _ {b : Bool} (q : b ≡ same (take (length (take c W)) (drop at I)) (take c W)) where
    pub marks_differ : b ≡ false → false ≡ agreed (geo_of s) I W
    unfolding agreed
    marks_differ t = simp (sym (compared q), t)

    module _ (t : b ≡ true) {v : Bool} (w : v ≡ zero_from W c (m - c)) where
      pub marks_bare : v ≡ false → false ≡ agreed (geo_of s) I W
      unfolding agreed
      marks_bare y = simp (sym (compared q), t, sym (left_over w), y)

      pub marks_tested : v ≡ true → {end : ℕ} → end ≡ s.size * s.area.0 → {r : Bool} → r ≡ zero_from I (at + c) (end - (at + c)) → r ≡ agreed (geo_of s) I W
      unfolding agreed
      marks_tested y {end} d {r} z =
          let g = geo_of s in
          let x : at + c ≡ map_from g + both_long g = λ i. at_is i + c_is i in
          let k : end - (at + c) ≡ map_long g - both_long g = past_long a (d ∙ sym (map_end f)) (long_is f) c_is in
          z ∙ ap (λ (w : ℕ). zero_from I w (end - (at + c))) x ∙ ap (zero_from I (map_from g + both_long g)) k
          ∙ simp (sym (compared q), t, sym (left_over w), y)

  module _ {end : ℕ} (d : end ≡ s.size * s.area.0) where
    pub past_in : at + c ≤ end
    past_in = let p = placed f in omega (arith, map_end f)

    pub past_image : at + c + (end - (at + c)) ≤ length I
    past_image = let p = placed f in omega (arith, map_end f)
