-- F1: big-endian numbers in a list of bytes, over the width n.
use Rattle.std.specs.Prelude.{List, [], ◌∷◌, ◌++◌, ℕ, zero, suc, ◌+◌, ◌*◌, ◌/◌, ◌%◌, length, get_or, take, drop, replicate}

-- the number in the n bytes of l that start at index `at`, highest byte first
unfoldable pub be : ℕ → List ℕ → ℕ → ℕ
be zero l at = 0
be (suc n) l at = be n l at * 256 + get_or l (at + n) 0

-- v as n bytes, highest first (its lowest n where it has more)
unfoldable pub bytes : ℕ → ℕ → List ℕ
bytes zero v = []
bytes (suc n) v = bytes n (v / 256) ++ (v % 256) ∷ []

-- l with the list vs in place of what stands from index `at` on
unfoldable pub splice : List ℕ → ℕ → List ℕ → List ℕ
splice l at vs = take at l ++ (vs ++ drop (at + length vs) l)

-- n zero bytes
abbrev pub zeros : ℕ → List ℕ
zeros n = replicate n 0
