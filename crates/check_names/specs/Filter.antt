-- The filter that `distinct` borrows: what it knows of names, so that W3 is decided without a comparison of every two. No rule
-- speaks of it: it comes back as it was lent. Definitions alone.
use Rattle.std.specs.Prelude.{◌≡◌, Bool, true, not, ◌&&◌, List, [], ◌∷◌, ℕ, ◌%◌, eqb, length, get_or}
use Rattle.wire.specs.Be.{zeros}
use Rattle.wire.specs.Pick.{pick}
use Rattle.name_filter.specs.Bits.{hash_of, filter_bytes, turned, filtered, noted, OffPair}
use Rattle.model.specs.Tree.{Name}
use Rattle.check_names.specs.Names.{one_of}

-- ---- the parts of the names: equal names have one hash and so are of one part, and W3 holds where it holds in each

-- of which part of m a name is
abbrev pub part_of : ℕ → Name → ℕ
part_of m x = hash_of x % 65521 % m

-- whether x is of part k of m, and one of these
abbrev pub met_in : ℕ → ℕ → Name → List Name → Bool
met_in m k x ys = eqb (part_of m x) k && one_of x ys

-- W3 of part k of m: none of its names is met again
unfoldable pub distinct_in : ℕ → ℕ → List Name → Bool
distinct_in m k [] = true
distinct_in m k (x ∷ xs) = not (met_in m k x xs) && distinct_in m k xs

-- ---- what a filter knows of names

-- the filter with no bit set, as it is lent
unfoldable pub clear : List ℕ
clear = zeros filter_bytes

-- Where x is one of the names it has all its bits: if it has not, it is none of them.
abbrev pub Covers : List ℕ → List Name → Name → Type 0
Covers F xs x = one_of x xs ≡ true → filtered F (hash_of x) ≡ true

-- So it is with each name of part k of m.
abbrev pub CoversPart : List ℕ → List Name → ℕ → ℕ → Type 0
CoversPart F xs m k = (x : Name) → part_of m x ≡ k → Covers F xs x

-- the filter with x noted where x is of part k of m
unfoldable pub noted_in : List ℕ → Name → ℕ → ℕ → List ℕ
noted_in F x m k = pick (eqb (part_of m x) k) (noted F (hash_of x)) F

-- No bit of these names stands in byte j.
abbrev pub OffFilter : ℕ → List Name → Type 0
OffFilter j xs = (x : Name) → one_of x xs ≡ true → OffPair j (hash_of x) × OffPair j (turned (hash_of x))

-- A filter in which only bytes of these names are not zero.
pub record Only (F : List ℕ) (xs : List Name) : Type 0 where
  pub long : length F ≡ filter_bytes
  pub rest : (j : ℕ) → OffFilter j xs → get_or F j 0 ≡ 0
