-- What it is to be the decimal of a number, said without dividing: `digits` of Line.antt is shown to be it (proofs/Digits.antt).
use Rattle.std.specs.Prelude.{◌≡◌, List, [], ◌∷◌, ℕ, ◌+◌, ◌-◌, ◌*◌, ◌≤◌, ◌<◌, length, get_or}

-- the number that digits stand for, v before them
unfoldable pub value_from : ℕ → List ℕ → ℕ
value_from v [] = v
value_from v (c ∷ l) = value_from (v * 10 + (c - 48)) l

-- Bytes `0` to `9` that stand for n; no leading zero, and one digit for 0.
pub record Decimal (n : ℕ) (l : List ℕ) : Type 0 where
  pub value : value_from 0 l ≡ n
  pub low : (i : ℕ) → i < length l → 48 ≤ get_or l i 0
  pub high : (i : ℕ) → i < length l → get_or l i 0 ≤ 57
  pub lead : 0 < n → 48 < get_or l 0 0
  pub nought : n ≡ 0 → length l ≡ 1
