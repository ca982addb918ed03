-- F3, F4 by version. Version 2 has a bit for every block of the data area, so that the third number of the reach never counts.
-- Version 1 has its bits for blocks of the data area alone, and all of them are in reach.
use mathlib.Core.Path.{◌≡◌}
use Prim.Native.Nat.{ℕ, ◌+◌, ◌-◌, ◌*◌, ◌/◌, ◌≤◌, min}
use native.Mathlib.Omega.{arith}
use Rattle.wire.specs.Pick.{pick}
use Rattle.model.specs.Geometry.{Geo, map_size, map_at, rest, map_blocks, data_at, reach, map_bits, Sound}
use Rattle.model.proofs.Areas.{geometry, by_known}

-- What is said of numbers by their version.
record Two (g : Geo) : Type 0 where
  rounds : g.version ≡ 2 → data_at g ≡ map_at g + (rest g + map_size g) / (map_size g + 1)
  bits : g.version ≡ 2 → g.n ≤ data_at g + map_bits g
  reaches : g.version ≡ 2 → reach g ≡ min (g.n - data_at g) (map_size g * (g.n / map_size g))

record One (g : Geo) : Type 0 where
  rounds : g.version ≡ 1 → data_at g ≡ map_at g + rest g / (map_size g + 1)
  bits : g.version ≡ 1 → data_at g + map_bits g ≤ g.n
  reaches : g.version ≡ 1 → reach g ≡ map_size g * map_blocks g

two_one : (K n : ℕ) → 4097 ≤ n - (K + 2) → Two (geometry K n 1 0)
two_one K n h = record { rounds = λ e. absurd (omega arith); bits = λ e. absurd (omega arith); reaches = λ e. absurd (omega arith) }

two_two : (K n : ℕ) → 2 ≤ n - (K + 2) → Two (geometry K n 2 0)
unfolding data_at reach map_blocks pick
two_two K n h = record { rounds = λ e. omega arith; bits = λ e. omega arith; reaches = λ e. omega arith }

two_large : (K n : ℕ) → 2 ≤ n - (K + 2) → Two (geometry K n 2 1)
unfolding data_at reach map_blocks pick
two_large K n h = record { rounds = λ e. omega arith; bits = λ e. omega arith; reaches = λ e. omega arith }

one-one : (K n : ℕ) → 4097 ≤ n - (K + 2) → One (geometry K n 1 0)
unfolding data_at reach map_blocks pick
one-one K n h = record { rounds = λ e. omega arith; bits = λ e. omega arith; reaches = λ e. omega arith }

one_two : (K n : ℕ) → 2 ≤ n - (K + 2) → One (geometry K n 2 0)
one_two K n h = record { rounds = λ e. absurd (omega arith); bits = λ e. absurd (omega arith); reaches = λ e. absurd (omega arith) }

one_large : (K n : ℕ) → 2 ≤ n - (K + 2) → One (geometry K n 2 1)
one_large K n h = record { rounds = λ e. absurd (omega arith); bits = λ e. absurd (omega arith); reaches = λ e. absurd (omega arith) }

module _ (g : Geo) (len : ℕ) (s : Sound g len) where
  two : Two g
  two = by_known Two two_one two_two two_large g s.known s.room s.one_map

  one : One g
  one = by_known One one-one one_two one_large g s.known s.room s.one_map

  -- Version 2: D by rounding up; a bit for every data block; the reach as the smaller of two numbers.
  pub version_2_data : g.version ≡ 2 → data_at g ≡ map_at g + (rest g + map_size g) / (map_size g + 1)
  version_2_data = two.rounds

  pub version_2_bits : g.version ≡ 2 → g.n ≤ data_at g + map_bits g
  version_2_bits = two.bits

  pub version_2_reach : g.version ≡ 2 → reach g ≡ min (g.n - data_at g) (map_size g * (g.n / map_size g))
  version_2_reach = two.reaches

  -- Version 1: D by rounding down; no bit past the data; the reach is all the bits.
  pub version_1_data : g.version ≡ 1 → data_at g ≡ map_at g + rest g / (map_size g + 1)
  version_1_data = one.rounds

  pub version_1_bits : g.version ≡ 1 → data_at g + map_bits g ≤ g.n
  version_1_bits = one.bits

  pub version_1_reach : g.version ≡ 1 → reach g ≡ map_size g * map_blocks g
  version_1_reach = one.reaches
