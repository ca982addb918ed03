-- W5's bitmap, as a test of the image's bytes against the marks in the lent work buffer. Definitions alone.
use Rattle.std.specs.Prelude.{Bool, ◌&&◌, List, ℕ, ◌+◌, ◌-◌, ◌*◌, ◌/◌, min, take, drop}
use Rattle.wire.specs.Pick.{same, zero_from}
use Rattle.block.specs.Block.{Area}
use Rattle.model.specs.Geometry.{area_of, Geo, block_size, map_at, data_at}

-- C3, R16: how many bytes of the work buffer hold marks: a bit for each block of the data area.
abbrev pub mark_bytes : Area → ℕ
mark_bytes A = (A.end - A.first + 7) / 8

-- Where the bitmap begins in the image, how many bytes it has, and how many of them stand for blocks of the data.
abbrev pub map_from : Geo → ℕ
map_from g = block_size g * map_at g

abbrev pub map_long : Geo → ℕ
map_long g = block_size g * (data_at g - map_at g)

abbrev pub mark_long : Geo → ℕ
mark_long g = mark_bytes (area_of g)

-- How many bytes bitmap and marks have both: those of the marks, or on version 1 those of the bitmap.
abbrev pub both_long : Geo → ℕ
both_long g = min (mark_long g) (map_long g)

-- W5: the bitmap of I has the marks W, which are those of the blocks that were reached, then zeros. W2: no block is marked that
-- has no bit.
unfoldable pub agreed : Geo → List ℕ → List ℕ → Bool
agreed g I W =
    same (take (both_long g) (drop (map_from g) I)) (take (both_long g) W)
    && (zero_from W (both_long g) (mark_long g - both_long g)
    && zero_from I (map_from g + both_long g) (map_long g - both_long g))
