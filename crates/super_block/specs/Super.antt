-- The struct of a volume's numbers, and what reading, making and writing a superblock gives.
use Rattle.std.specs.Prelude.{◌≡◌, List, ℕ, ◌+◌, ◌*◌, ◌≤◌, length, Result, Ok, Err}
use Rattle.wire.specs.Be.{bytes, splice}
use Rattle.block.specs.Block.{Area, BlockSize}
use Rattle.limits.specs.Refusals.{refusal_number}
use Rattle.limits.specs.declared.Refusal.{Refusal}
use Rattle.model.specs.Geometry.{Mount, Geo, block_size, map_at, data_at, map_bits, reach, version_at, count_at, geo_at, super_bytes, Sound, open_refusal, format_refusal, format_geo}
use Rattle.model.specs.Volume.{WellFormed}
use Rattle.super_block.specs.declared.SuperBlock.{SuperBlock}

-- F1, F2: the mount and the numbers of a volume that a struct stands for, and the struct of such numbers.
abbrev pub mount_of : SuperBlock → Mount
mount_of s = record { K = s.addr.0; code = s.code }

abbrev pub geo_of : SuperBlock → Geo
geo_of s = record { K = s.addr.0; n = s.blocks; version = s.version; code = s.code }

-- F3: the data area, by the struct's own numbers.
abbrev pub area_in : SuperBlock → Area
area_in s = record { size = s.size; first = s.area.0; end = s.blocks }

abbrev pub super_block : Geo → SuperBlock
super_block g =
    record {
      addr = record { 0 = g.K };
      blocks = g.n;
      size = block_size g;
      version = g.version;
      code = g.code;
      bitmap = record { 0 = map_at g };
      area = record { 0 = data_at g };
      bits = map_bits g;
      reach = reach g;
    }

-- The numbers are sound for an image of some length: what making a struct of them requires.
pub record Fair (g : Geo) : Type 0 where
  pub image : ℕ
  pub sound : Sound g image

-- The struct is that of sound numbers for the image: what every function below the public calls requires.
pub record Fit (s : SuperBlock) (I : List ℕ) : Type 0 where
  pub size : s.size ≡ block_size (geo_of s)
  pub known : BlockSize s.size
  pub bitmap : s.bitmap.0 ≡ map_at (geo_of s)
  pub area : s.area.0 ≡ data_at (geo_of s)
  pub bits : s.bits ≡ map_bits (geo_of s)
  pub reach : s.reach ≡ reach (geo_of s)
  pub sound : Sound (geo_of s) (length I)
  -- what follows for the struct's own products: superblock and bitmap begin, and all blocks lie, in the image
  pub inside : s.size * s.blocks ≤ length I
  pub top : s.size * s.addr.0 + 2 * s.size ≤ length I

-- O8: and the image is well formed, with that superblock: what a passed check gives and create, delete and write require.
pub record Ready (s : SuperBlock) (I : List ℕ) : Type 0 where
  pub fit : Fit s I
  pub well : WellFormed (mount_of s) I
  pub version : s.version ≡ version_at (mount_of s) I
  pub count : s.blocks ≡ count_at (mount_of s) I

-- R1 to R3: reading gives the first of them that holds, or the numbers that the image's superblock says.
abbrev pub OpenedIs : Mount → List ℕ → Result SuperBlock Refusal → Type 0
OpenedIs M I (Ok s) = (open_refusal M I ≡ 0) × (s ≡ super_block (geo_at M I))
OpenedIs M I (Err r) = open_refusal M I ≡ refusal_number r

-- Making: the first of 1, 3 that holds, or the numbers of an image of len bytes.
abbrev pub MadeIs : Mount → ℕ → Result SuperBlock Refusal → Type 0
MadeIs M len (Ok s) = (format_refusal M len ≡ 0) × (s ≡ super_block (format_geo M len))
MadeIs M len (Err r) = format_refusal M len ≡ refusal_number r

-- The image with v as its used count.
unfoldable pub counted : Geo → List ℕ → ℕ → List ℕ
counted g I v = splice I (block_size g * g.K + 14) (bytes 4 v)

-- The image with a superblock that has used count v.
unfoldable pub super_written : Geo → List ℕ → ℕ → List ℕ
super_written g I v = splice I (block_size g * g.K) (super_bytes g v)
