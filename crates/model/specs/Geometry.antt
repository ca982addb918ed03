-- 3. The numbers of a volume: where superblock, bitmap and data are, how far allocation looks, and refusals 1, 2 and 3.
-- Definitions alone.
use Rattle.std.specs.Prelude.{◌≡◌, Bool, not, ◌||◌, ◌&&◌, ◌⊎◌, List, [], ◌∷◌, ◌++◌, ℕ, ◌+◌, ◌-◌, ◌*◌, ◌/◌, ◌%◌, ◌^◌, ◌≤◌, min, leb, ltb, eqb, length, get_or, take, drop}
use Rattle.wire.specs.Be.{be, bytes}
use Rattle.wire.specs.Pick.{pick, same}
use Rattle.bits.specs.Bit.{ones}
use Rattle.block.specs.Block.{Area, block_bytes}
use Rattle.model.specs.Render.{padded}
use Rattle.model.specs.Answers.{when, first_of}

-- F1: where a caller says that the volume is: the superblock's block, and the code of the size in which blocks are counted.
pub record Mount : Type 0 where
  pub K : ℕ
  pub code : ℕ

-- The mount of a call, by the two numbers that it is given.
abbrev pub mount : ℕ → ℕ → Mount
mount K c = record { K = K; code = c }

-- F1: the bytes of a block by its size code, 512 for code 0 and 1024 for code 1. No law on chains, directories and files asks for
-- these numbers.
abbrev pub code_size : ℕ → ℕ
code_size c = block_bytes * 2 ^ c

-- F1: the last size code that there is.
abbrev pub last_code : ℕ
last_code = 1

-- F1, F2: K is the superblock's block; n, version and size code are the superblock's own.
pub record Geo : Type 0 where
  pub K : ℕ
  pub n : ℕ
  pub version : ℕ
  pub code : ℕ

abbrev pub block_size : Geo → ℕ
block_size g = code_size g.code

-- the mount of a volume with these numbers
abbrev pub mounted : Geo → Mount
mounted g = record { K = g.K; code = g.code }

-- The indexes whose bits one bitmap block holds: 4096 where the size code is 0.
abbrev pub map_size : Geo → ℕ
map_size g = 8 * block_size g

-- F3: a, where the bitmap begins.
abbrev pub map_at : Geo → ℕ
map_at g = g.K + 2

-- F3: N, the blocks of bitmap and data area together.
abbrev pub rest : Geo → ℕ
rest g = g.n - map_at g

-- F3: b, the bitmap's blocks: one for each 4097 blocks, itself and the 4096 whose bits it holds. Version 2 rounds up. Version 1
-- rounds down, so that its last data blocks may have no bit.
unfoldable pub map_blocks : Geo → ℕ
map_blocks g = pick (eqb g.version 1) (rest g / (map_size g + 1)) ((rest g + map_size g) / (map_size g + 1))

-- F3: D, where the data area begins.
unfoldable pub data_at : Geo → ℕ
data_at g = map_at g + map_blocks g

-- F4: how many indexes allocation looks at. The second number is rounded down, so the last blocks may be out of reach; the third
-- is the bits that there are.
unfoldable pub reach : Geo → ℕ
reach g = min (min (g.n - data_at g) (map_size g * (g.n / map_size g))) (map_size g * map_blocks g)

-- F3: the data area.
abbrev pub area_of : Geo → Area
area_of g = record { size = block_size g; first = data_at g; end = g.n }

-- All the bits of the bitmap: of blocks a to D-1.
abbrev pub map_bits : Geo → ℕ
map_bits g = 8 * (block_size g * (data_at g - map_at g))

-- Where the data blocks that have a bit end: the end of the volume, or before it.
abbrev pub bit_end : Geo → ℕ
bit_end g = min g.n (data_at g + map_bits g)

-- W5: how many bits of the bitmap are set
abbrev pub set_bits : List ℕ → Geo → ℕ
set_bits I g = ones I (block_size g * map_at g) (map_bits g)

-- ---- the superblock

-- F2: the letters `MOROS FS`
abbrev pub signature : List ℕ
signature = 77 ∷ 79 ∷ 82 ∷ 79 ∷ 83 ∷ 32 ∷ 70 ∷ 83 ∷ []

-- F2: all bytes of the superblock with used count u.
unfoldable pub super_bytes : Geo → ℕ → List ℕ
super_bytes g u = padded (block_size g) (signature ++ (g.version ∷ (g.code ∷ (bytes 4 g.n ++ bytes 4 u))))

-- The numbers of n blocks at a mount, by version; and F2, C1: those that format writes, of version 2.
abbrev pub numbered : Mount → ℕ → ℕ → Geo
numbered M v n = record { K = M.K; n = n; version = v; code = M.code }

abbrev pub geo : Mount → ℕ → Geo
geo M n = numbered M 2 n

-- What the image's superblock says: version, size code, n, and the used count.
unfoldable pub version_at : Mount → List ℕ → ℕ
version_at M I = get_or I (code_size M.code * M.K + 8) 0

unfoldable pub code_at : Mount → List ℕ → ℕ
code_at M I = get_or I (code_size M.code * M.K + 9) 0

unfoldable pub count_at : Mount → List ℕ → ℕ
count_at M I = be 4 I (code_size M.code * M.K + 10)

abbrev pub geo_at : Mount → List ℕ → Geo
geo_at M I = numbered M (version_at M I) (count_at M I)

unfoldable pub used_count : Geo → List ℕ → ℕ
used_count g I = be 4 I (block_size g * g.K + 14)

-- ---- W1 and the limits

-- F13: the longest image, in bytes.
abbrev pub image_limit : ℕ
image_limit = 8388608 * block_bytes

-- F2: the versions and size codes that there are: version 1 has blocks of 512 bytes alone.
abbrev pub Known : Geo → Type 0
Known g = ((g.version ≡ 1) × (g.code ≡ 0)) ⊎ ((g.version ≡ 2) × (g.code ≤ last_code))

-- The numbers fit an image of len bytes.
pub record Sound (g : Geo) (len : ℕ) : Type 0 where
  -- (No law of chains, directories and files reads `known`: another version or size code would widen it, and they would stand.)
  pub known : Known g
  pub whole : len % block_size g ≡ 0
  pub limit : len ≤ image_limit
  -- W1: what is asked of n. (Version 1 rounds b down, so it needs the blocks of one bitmap block; where version 2 has N mod 4097
  -- = 1 a bitmap block would have no block to speak of.)
  pub inside_image : g.n * block_size g ≤ len
  pub room : 2 ≤ rest g
  pub one_map : g.version ≡ 1 → map_size g + 1 ≤ rest g
  pub remainder : (g.version ≡ 1 → ⊥) → rest g % (map_size g + 1) ≡ 1 → ⊥

-- ---- refusals 1, 2, 3

-- R2, of what the caller says: a size code that is not known.
unfoldable pub bad_code : Mount → Bool
bad_code M = ltb last_code M.code

-- R1, of an image of len bytes
unfoldable pub bad_image : Mount → ℕ → Bool
bad_image M len =
    eqb len 0 || (not (eqb (len % code_size M.code) 0) || (ltb image_limit len || leb (len / code_size M.code) (M.K + 2)))

-- R2: version v is none that volumes of size code c have.
unfoldable pub bad_version : ℕ → ℕ → Bool
bad_version v c = not (eqb v 2 || (eqb v 1 && eqb c 0))

-- R2: the signature, then a version that is known, then the mount's size code
unfoldable pub bad_mark : Mount → List ℕ → Bool
bad_mark M I =
    not (same (take 8 (drop (code_size M.code * M.K) I)) signature)
    || (not (eqb (code_at M I) M.code) || bad_version (version_at M I) M.code)

-- R3, of an image of len bytes
unfoldable pub bad_count : Geo → ℕ → Bool
bad_count g len =
    ltb (len / block_size g) g.n
    || pick (eqb g.version 1) (ltb (rest g) (map_size g + 1)) (ltb (rest g) 2 || eqb (rest g % (map_size g + 1)) 1)

-- O3, O5: 1, 2, 3, what every call on a volume gives first; 0 where it gives none of them.
unfoldable pub open_refusal : Mount → List ℕ → ℕ
open_refusal M I =
    first_of (when 2 (bad_code M) ∷ (when 1 (bad_image M (length I)) ∷ (when 2 (bad_mark M I)
    ∷ (when 3 (bad_count (geo_at M I) (length I)) ∷ []))))

-- C1, O2: format asks nothing of what stands in block K, and n is the image's number of blocks; so it gives 2 for the caller's
-- size code alone.
abbrev pub format_geo : Mount → ℕ → Geo
format_geo M len = geo M (len / code_size M.code)

unfoldable pub format_refusal : Mount → ℕ → ℕ
format_refusal M len =
    first_of (when 2 (bad_code M) ∷ (when 1 (bad_image M len) ∷ (when 3 (bad_count (format_geo M len) len) ∷ [])))
