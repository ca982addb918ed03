-- The laws of `bit`, `with_bit` and `ones`. Callers cite these and unfold none of the three.
use mathlib.Core.Path.{◌≡◌, refl}
use mathlib.Core.Logic.{◌≢◌}
use mathlib.Core.List.{List}
use Prim.Native.Nat.{ℕ, zero, suc, ◌+◌, ◌-◌, ◌*◌, ◌/◌, ◌%◌, ◌^◌, ◌≤◌, ◌<◌}
use native.Mathlib.Numerals.{add-one}
use native.Mathlib.Decide.{ℕ_discrete}
use native.Mathlib.Omega.{arith}
use lib.Bits.{bit_and, bit_or}
use lib.ListN.{length, get_or, set, length-set}
use lib.Seq.{get_or-set_same, get_or-set_other}
use Rattle.bits.specs.Bit.{bit, with_bit, ones}
use Rattle.bits.proofs.Digits.{mask, or_bit, and_not_bit, digit_lt, digit_with_same, digit_with_other, digit_of_zero}

-- ---- bit

pub bit-lt : (l : List ℕ) (from x : ℕ) → bit l from x < 2
unfolding bit
bit-lt l from x = digit_lt (get_or l (from + x / 8) 0) (x % 8)

-- it speaks of its own byte alone
pub bit_ext : (l m : List ℕ) (from to x : ℕ) → get_or l (from + x / 8) 0 ≡ get_or m (to + x / 8) 0 → bit l from x ≡ bit m to x
unfolding bit
bit_ext l m from to x e = rw e

-- a zero byte has no bit set
pub bit_zero : (l : List ℕ) (from x : ℕ) → get_or l (from + x / 8) 0 ≡ 0 → bit l from x ≡ 0
unfolding bit
bit_zero l from x e = rw e (digit_of_zero (x % 8))

-- ---- a bit put in

-- as code sets it and clears it
pub bit-set : (l : List ℕ) (from x : ℕ) → set l (from + x / 8) (bit_or (get_or l (from + x / 8) 0) ((1 * 2 ^ (x % 8)) % 256)) ≡ with_bit l from x 1
unfolding with_bit
bit-set l from x = rw (mask (x % 8) (omega arith), or_bit (get_or l (from + x / 8) 0) (x % 8))

pub bit_cleared : (l : List ℕ) (from x : ℕ) → get_or l (from + x / 8) 0 < 256
    → set l (from + x / 8) (bit_and (get_or l (from + x / 8) 0) (255 - (1 * 2 ^ (x % 8)) % 256)) ≡ with_bit l from x 0
unfolding with_bit
bit_cleared l from x h = rw (mask (x % 8) (omega arith), and_not_bit (get_or l (from + x / 8) 0) (x % 8) h (omega arith))

pub length_with : (l : List ℕ) (from x v : ℕ) → length (with_bit l from x v) ≡ length l
unfolding with_bit
length_with l from x v = simp length-set

pub byte_with_other : (l : List ℕ) (from x v j : ℕ) → j ≢ from + x / 8 → get_or (with_bit l from x v) j 0 ≡ get_or l j 0
unfolding with_bit
byte_with_other l from x v j d = get_or-set_other l (from + x / 8) j _ 0 d

pub bit_with_same : (l : List ℕ) (from x v : ℕ) → from + x / 8 < length l → v < 2 → bit (with_bit l from x v) from x ≡ v
unfolding bit with_bit
bit_with_same l from x v h p = rw (get_or-set_same l (from + x / 8) _ 0 h) (digit_with_same (get_or l (from + x / 8) 0) (x % 8) v p)

pub bit_with_other : (l : List ℕ) (from x v y : ℕ) → from + x / 8 < length l → v < 2 → y ≢ x → bit (with_bit l from x v) from y ≡ bit l from y
unfolding bit with_bit
bit_with_other l from x v y h p d = go (ℕ_discrete (y / 8) (x / 8))
  where
    go : Dec (y / 8 ≡ x / 8) → bit (with_bit l from x v) from y ≡ bit l from y
    go (yes e) = rw (e, get_or-set_same l (from + x / 8) _ 0 h) (digit_with_other (get_or l (from + x / 8) 0) (x % 8) (y % 8) v p (omega arith))
    go (no n) = rw (get_or-set_other l (from + x / 8) (from + y / 8) _ 0 (omega arith))

-- ---- the count

pub ones_none : (l : List ℕ) (from : ℕ) → ones l from 0 ≡ 0
unfolding ones
ones_none l from = refl

pub ones-more : (l : List ℕ) (from x : ℕ) → ones l from (x + 1) ≡ ones l from x + bit l from x
unfolding ones
ones-more l from x = rw add-one

pub ones-le : (l : List ℕ) (from n : ℕ) → ones l from n ≤ n
unfolding ones
ones-le l from zero = omega arith
ones-le l from (suc n) = omega (arith, ones-le l from n, bit-lt l from n)
