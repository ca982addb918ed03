-- The search for the lowest clear bit: past the bytes that are full, and then past the ones of the first that is not.
use mathlib.Core.Path.{◌≡◌, refl, sym, ap, ◌∙◌}
use mathlib.Core.Logic.{◌≢◌}
use mathlib.Core.Bool.{Bool, true, false}
use mathlib.Core.List.{List}
use Prim.Native.Nat.{ℕ, ◌+◌, ◌-◌, ◌*◌, ◌/◌, ◌%◌, ◌≤◌, ◌<◌}
use native.Mathlib.Decide.{dec_lt}
use native.Mathlib.Omega.{arith}
use lib.Dec.{ltb}
use lib.ListN.{length, get_or}
use mir.Syntax.{w8}
use borrow.Author.Tests.{ltb-true, ltb-false}
use Rattle.std.specs.Bool.{then_some}
use Rattle.std.specs.Int.{trailing_ones}
use Rattle.std.specs.List.{AllWithin, HoldsAt, between}
use Rattle.std.proofs.lemmas.List.Edits.{length-between, get_or-between}
use Rattle.std.proofs.lemmas.Nat.Bits.{bit_at-trailing_ones}
use Rattle.bits.specs.Bit.{digit, bit, AllSet}
use Rattle.bits.specs.Find.{Lowest}
use Rattle.bits.proofs.Digits.{ones_of_255}

-- a full byte, and one that is not
abbrev pub Full : ℕ → Type 0
Full b = b ≡ 255

abbrev pub Open : ℕ → Type 0
Open b = b ≢ 255

-- the bytes from `first` on below `end`, of which the first i are full; no bit below `start`, in byte `first`, is clear
module _ (l : List ℕ) (from start end : ℕ) (set : AllSet l from 0 start) where
  -- no bit of the full bytes is clear
  full_set : (i : ℕ) → AllWithin Full (between (from + start / 8) end l) 0 i → from + start / 8 + i ≤ end
      → (k : ℕ) → k < 8 * (start / 8 + i) → bit l from k ≡ 1
  unfolding bit
  full_set i full h k q = go (dec_lt k start)
    where
      go : Dec (k < start) → bit l from k ≡ 1
      go (yes p) = set k (omega arith) p
      go (no p) =
          let j : ℕ = k / 8 - start / 8 in
          let e : from + start / 8 + j ≡ from + k / 8 = omega arith in
          let b : get_or l (from + k / 8) 0 ≡ 255
          = ap (λ (x : ℕ). get_or l x 0) (sym e) ∙ sym (get_or-between l (from + start / 8) end j 0 (omega arith)) ∙ full j 0 (omega arith) (omega arith) in
          rw b (ones_of_255 (k % 8) (omega arith))

  -- none is below the limit where all bytes are full
  pub none_clear : (n : ℕ) → n ≤ 8 * (end - from) → from + start / 8 ≤ end → end ≤ length l
      → AllWithin Full (between (from + start / 8) end l) 0 (length (between (from + start / 8) end l)) → (k : ℕ) → k < n → bit l from k ≡ 1
  none_clear n h f g full k q =
      let e = length-between l (from + start / 8) end g in
      full_set (end - (from + start / 8)) (rw e at full) (omega arith) k (omega arith)

  -- the first clear bit of a byte that is not full
  pub byte_clear : (n i t : ℕ) → get_or l (from + start / 8 + i) 0 < 256 → t ≡ trailing_ones w8 (get_or l (from + start / 8 + i) 0)
      → from + start / 8 + i < end → HoldsAt Open (between (from + start / 8) end l) i → AllWithin Full (between (from + start / 8) end l) 0 i
      → Lowest l from n (then_some (ltb (8 * (from + start / 8 + i - from) + t) n) (8 * (from + start / 8 + i - from) + t))
  unfolding bit digit
  byte_clear n i t small is h hole full = chosen (ltb x n) (ltb-true x n) (ltb-false x n) clear before
    where
      b : ℕ
      b = get_or l (from + start / 8 + i) 0

      x : ℕ
      x = 8 * (from + start / 8 + i - from) + t

      differs : b ≢ 255
      differs e = hole 0 (get_or-between l (from + start / 8) end i 0 h ∙ e)

      found : (trailing_ones w8 b < 8) × (digit b (trailing_ones w8 b) ≡ 0) × ((j : ℕ) → j < trailing_ones w8 b → digit b j ≡ 1)
      found = let d : b ≢ 255 = differs in bit_at-trailing_ones w8 b (omega arith)

      clear : bit l from x ≡ 0
      clear =
          let f = found.0 in
          let p : from + x / 8 ≡ from + start / 8 + i = omega arith in
          let q : x % 8 ≡ trailing_ones w8 b = omega arith in
          rw (p, q) found.1

      before : (k : ℕ) → k < x → bit l from k ≡ 1
      before k q = go (dec_lt k (8 * (start / 8 + i)))
        where
          go : Dec (k < 8 * (start / 8 + i)) → bit l from k ≡ 1
          go (yes p) = full_set i full (omega arith) k p
          go (no p) =
              let f = found.0 in
              let u : from + k / 8 ≡ from + start / 8 + i = omega arith in
              rw u (found.2 (k % 8) (omega arith))

      chosen : (r : Bool) → (r ≡ true → x < n) → (r ≡ false → n ≤ x) → bit l from x ≡ 0 → ((k : ℕ) → k < x → bit l from k ≡ 1) → Lowest l from n (then_some r x)
      chosen true y z c o = (y refl, c, o)
      chosen false y z c o = λ k q. o k (let w = z refl in omega arith)
