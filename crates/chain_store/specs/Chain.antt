-- Blocks given back: what the stores make of the image. Definitions alone.
use Rattle.std.specs.Prelude.{◌||◌, List, ℕ, zero, suc, ◌-◌, leb, eqb}
use Rattle.wire.specs.Pick.{pick}
use Rattle.block.specs.Block.{next}
use Rattle.model.specs.Geometry.{area_of, Geo, block_size, data_at, bit_end, used_count}
use Rattle.bitmap_block.specs.Bitmap.{freed}
use Rattle.read_dir.specs.Walk.{in_area}

-- F7: block a of the data area is given back. (On a volume the count is not 0, and a block that is reached has a bit.)
unfoldable pub released : Geo → List ℕ → ℕ → List ℕ
released g I a = pick (eqb (used_count g I) 0 || leb (bit_end g) a) I (freed g I (a - data_at g))

-- C11, C12: the blocks of the chain from a on are given back, k of them at most, each looked at before it is read, and its next
-- address read before it is given back.
unfoldable pub chain_freed : Geo → List ℕ → ℕ → ℕ → List ℕ
chain_freed g I zero a = I
chain_freed g I (suc k) a = pick (in_area (area_of g) I a) (chain_freed g (released g I a) k (next (block_size g) I a)) I
