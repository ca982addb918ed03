-- What sound numbers give: the areas of a volume in order, and a bit for each index in reach. Only this file, `Versions` and the
-- port of super_block.rs read the formulas of D and reach.
use mathlib.Core.Path.{◌≡◌, sym, ap, subst}
use mathlib.Core.Logic.{inl, inr}
use mathlib.Core.List.{List}
use Prim.Native.Nat.{ℕ, zero, suc, ◌+◌, ◌-◌, ◌*◌, ◌^◌, ◌≤◌, ◌<◌}
use native.Mathlib.Nat.{one-le-pow, mul-suc, mul_comm, mul-le-mul_left}
use native.Mathlib.Omega.{arith}
use lib.Dec.{lit<}
use lib.ListN.{length}
use Rattle.wire.specs.Pick.{pick}
use Rattle.bits.specs.Bit.{bit}
use Rattle.block.specs.Block.{BlockSize}
use Rattle.model.specs.Tree.{Tree}
use Rattle.model.specs.Render.{blocks, count}
use Rattle.model.specs.Geometry.{Geo, code_size, block_size, map_size, map_at, rest, map_blocks, data_at, reach, map_bits, bit_end, set_bits, Known, Sound}
use Rattle.model.specs.Volume.{Laid, Volume}
use Rattle.model.proofs.Counts.{ones-length}

-- ---- by version and size code

abbrev pub geometry : ℕ → ℕ → ℕ → ℕ → Geo
geometry K n v c = record { K = K; n = n; version = v; code = c }

-- What holds of each known version with each of its size codes holds of all known numbers.
pub by_known : (P : Geo → Type 0) → ((K n : ℕ) → 4097 ≤ n - (K + 2) → P (geometry K n 1 0)) → ((K n : ℕ) → 2 ≤ n - (K + 2) → P (geometry K n 2 0))
    → ((K n : ℕ) → 2 ≤ n - (K + 2) → P (geometry K n 2 1))
    → (g : Geo) → Known g → 2 ≤ rest g → (g.version ≡ 1 → map_size g + 1 ≤ rest g) → P g
by_known P one two large g (inl k) h o =
    let e : geometry g.K g.n 1 0 ≡ g = λ i. geometry g.K g.n (sym k.0 i) (sym k.1 i) in
    let m : 4097 ≤ rest g = omega (arith, o k.0, ap code_size k.1) in
    subst P e (one g.K g.n m)
by_known P one two large g (inr k) h o =
    let e : geometry g.K g.n 2 g.code ≡ g = λ i. geometry g.K g.n (sym k.0 i) g.code in
    subst P e (go g.code k.1)
  where
    go : (c : ℕ) → c ≤ 1 → P (geometry g.K g.n 2 c)
    go zero q = two g.K g.n h
    go (suc zero) q = large g.K g.n h
    go (suc (suc c)) q = absurd (omega arith)

-- a block is no smaller than 512 bytes
pub size_large : (g : Geo) → 512 ≤ block_size g
size_large g = let h : 1 ≤ 2 ^ g.code = one-le-pow g.code 2 (lit< tt) in omega arith

-- and of known numbers it is a size that blocks have
known_size : (g : Geo) → Known g → BlockSize (block_size g)
known_size g (inl k) = subst (λ (c : ℕ). BlockSize (512 * 2 ^ c)) (sym k.1) (record { least = omega arith; most = omega arith })
known_size g (inr k) = go g.code k.1
  where
    go : (c : ℕ) → c ≤ 1 → BlockSize (512 * 2 ^ c)
    go zero q = record { least = omega arith; most = omega arith }
    go (suc zero) q = record { least = omega arith; most = omega arith }
    go (suc (suc c)) q = absurd (omega arith)

pub size_known : (g : Geo) (len : ℕ) → Sound g len → BlockSize (block_size g)
size_known g len s = known_size g s.known

-- ---- the areas

pub record Area (g : Geo) : Type 0 where
  pub maps : map_at g < data_at g
  pub some_data : data_at g < g.n
  pub reached : data_at g + reach g ≤ g.n
  -- an index in reach has a bit, and so has the root
  pub has_bits : reach g ≤ map_bits g
  pub some_bits : 0 < map_bits g
  pub few_bits : map_bits g ≤ g.n + map_size g

area_one : (K n : ℕ) → 4097 ≤ n - (K + 2) → Area (geometry K n 1 0)
unfolding data_at reach map_blocks pick
area_one K n h = record { maps = omega arith; some_data = omega arith; reached = omega arith; has_bits = omega arith; some_bits = omega arith; few_bits = omega arith }

area_two : (K n : ℕ) → 2 ≤ n - (K + 2) → Area (geometry K n 2 0)
unfolding data_at reach map_blocks pick
area_two K n h = record { maps = omega arith; some_data = omega arith; reached = omega arith; has_bits = omega arith; some_bits = omega arith; few_bits = omega arith }

area_large : (K n : ℕ) → 2 ≤ n - (K + 2) → Area (geometry K n 2 1)
unfolding data_at reach map_blocks pick
area_large K n h = record { maps = omega arith; some_data = omega arith; reached = omega arith; has_bits = omega arith; some_bits = omega arith; few_bits = omega arith }

area_of_lem : (g : Geo) → Known g → 2 ≤ rest g → (g.version ≡ 1 → map_size g + 1 ≤ rest g) → Area g
area_of_lem = by_known Area area_one area_two area_large

pub area : (g : Geo) (len : ℕ) → Sound g len → Area g
area g len s = area_of_lem g s.known s.room s.one_map

-- n is small
pub few : (g : Geo) (len : ℕ) → Sound g len → g.n ≤ 8388608
few g len s = omega (arith, s.inside_image, mul-le-mul_left g.n (size_large g), s.limit)

-- one of n blocks lies in an image that has n, and so one of the volume
pub row_inside : (B n len a : ℕ) → n * B ≤ len → a < n → B * a + B ≤ len
row_inside B n len a h q = omega (arith, mul-le-mul_left B q, mul-suc B a, mul_comm B n)

pub block_inside : (g : Geo) (len : ℕ) → Sound g len → (a : ℕ) → a < g.n → block_size g * a + block_size g ≤ len
block_inside g len s a h = row_inside (block_size g) g.n len a s.inside_image h

-- W2: a block that is reached lies below the end of those that have a bit
pub laid_in : (g : Geo) (I : List ℕ) (d : ℕ) (t : Tree d) (u : ℕ) → Laid g I d t u → (i : ℕ) → 1 ≤ count i (blocks (block_size g) d t) → (data_at g ≤ i) × (i < bit_end g)
laid_in g I d t u l i h = let r = l.range i h in (r.0, omega (arith, r.1, l.bits i h))

-- W5: the used count is D plus the blocks that are reached
set_bits_lem : (g : Geo) (I J : List ℕ) (d : ℕ) (t : Tree d) (u : ℕ) → Laid g I d t u
    → ((x : ℕ) → x < map_bits g → bit J (block_size g * map_at g) x ≡ count (data_at g + x) (blocks (block_size g) d t)) → set_bits J g ≡ length (blocks (block_size g) d t)
set_bits_lem g I J d t u l m =
    ones-length J (block_size g * map_at g) (data_at g) (map_bits g) (blocks (block_size g) d t) m (λ i h. ((l.range i h).0, l.bits i h))

pub volume_bits : (g : Geo) (I : List ℕ) (d : ℕ) (t : Tree d) → Volume g I d t → set_bits I g ≡ length (blocks (block_size g) d t)
volume_bits g I d t v = set_bits_lem g I I d t _ v.laid v.marked

-- so a volume may be said with either number
pub volume_laid : (g : Geo) (I : List ℕ) (d : ℕ) (t : Tree d) → Volume g I d t → Laid g I d t (data_at g + length (blocks (block_size g) d t))
volume_laid g I d t v = subst (λ (z : ℕ). Laid g I d t (data_at g + z)) (volume_bits g I d t v) v.laid

pub laid_volume : (g : Geo) (I : List ℕ) (d : ℕ) (t : Tree d) → Laid g I d t (data_at g + length (blocks (block_size g) d t))
    → ((x : ℕ) → x < map_bits g → bit I (block_size g * map_at g) x ≡ count (data_at g + x) (blocks (block_size g) d t)) → Volume g I d t
laid_volume g I d t l m =
    record { laid = subst (λ (z : ℕ). Laid g I d t (data_at g + z)) (sym (set_bits_lem g I I d t _ l m)) l; marked = m }
