-- The filter that a test for distinct names borrows: the hash of a name, and the four bits that it has there. Definitions alone.
use Rattle.std.specs.Prelude.{◌≢◌, Bool, ◌&&◌, List, [], ◌∷◌, ℕ, ◌+◌, ◌*◌, ◌/◌, ◌%◌, eqb, set}
use Rattle.bits.specs.Bit.{bit, with_bit}

-- ---- the hash of a name, a number of 32 bits

-- h with one byte more
unfoldable pub stirred : ℕ → ℕ → ℕ
stirred h c = (h + c) * 2654435761 % 4294967296

-- the hash of x, where h is that of what stands before
unfoldable pub hash_from : ℕ → List ℕ → ℕ
hash_from h [] = h
hash_from h (c ∷ x) = hash_from (stirred h c) x

abbrev pub hash_of : List ℕ → ℕ
hash_of x = hash_from 0 x

-- ---- its four bits in a filter of 131072: two pairs, by the lowest 17 digits and by the highest 17 of the hash as it is, and of
-- the hash with its digits turned by eight places

abbrev pub filter_bytes : ℕ
filter_bytes = 16384

abbrev pub low_bit : ℕ → ℕ
low_bit h = h % 131072

abbrev pub high_bit : ℕ → ℕ
high_bit h = h / 32768

abbrev pub turned : ℕ → ℕ
turned h = h / 256 + h % 256 * 16777216

-- is a pair set; the filter with both set; the filter with their bytes zero
unfoldable pub pair_in : List ℕ → ℕ → Bool
pair_in F h = eqb (bit F 0 (low_bit h)) 1 && eqb (bit F 0 (high_bit h)) 1

unfoldable pub with_pair : List ℕ → ℕ → List ℕ
with_pair F h = with_bit (with_bit F 0 (low_bit h) 1) 0 (high_bit h) 1

unfoldable pub less_pair : List ℕ → ℕ → List ℕ
less_pair F h = set (set F (low_bit h / 8) 0) (high_bit h / 8) 0

-- the same of all four
unfoldable pub filtered : List ℕ → ℕ → Bool
filtered F h = pair_in F h && pair_in F (turned h)

unfoldable pub noted : List ℕ → ℕ → List ℕ
noted F h = with_pair (with_pair F h) (turned h)

unfoldable pub wiped : List ℕ → ℕ → List ℕ
wiped F h = less_pair (less_pair F h) (turned h)

-- Neither bit of a pair stands in byte j.
abbrev pub OffPair : ℕ → ℕ → Type 0
OffPair j h = (j ≢ low_bit h / 8) × (j ≢ high_bit h / 8)
