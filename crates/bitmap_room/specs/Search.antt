-- C18: a search for k clear bits of the bitmap: whether it finds them, and how many bytes it reads. Definitions alone.
use Rattle.std.specs.Prelude.{◌≡◌, List, ℕ, zero, suc, ◌+◌, ◌-◌, ◌*◌, ◌/◌, ◌≤◌, ◌<◌, min, leb, ltb, length}
use Rattle.wire.specs.Pick.{pick}
use Rattle.bits.specs.Bit.{ones}
use Rattle.model.specs.Geometry.{Geo, block_size, map_at, reach}
use Rattle.bitmap_block.specs.Bitmap.{clears}
use Rattle.bitmap_room.specs.declared.Told.{Told}

-- how many of the bits below the limit that stand in the first m bytes are clear
unfoldable pub clear_in : List ℕ → ℕ → ℕ → ℕ → ℕ
clear_in l from limit m = min (8 * m) limit - ones l from (min (8 * m) limit)

-- how many of the first m bytes a search for k clear bits reads: a byte is read where those before it have fewer
unfoldable pub bytes_read : List ℕ → ℕ → ℕ → ℕ → ℕ → ℕ
bytes_read l from limit k zero = 0
bytes_read l from limit k (suc m) = bytes_read l from limit k m + pick (ltb (clear_in l from limit m) k) 1 0

-- the bytes that hold a bit below the limit, the last one in part maybe
abbrev pub bytes_for : ℕ → ℕ
bytes_for limit = (limit + 7) / 8

-- the b bytes from byte i on are looked at together, and c of their bits below the limit are clear; where that is as many as are
-- left to find there is one byte, so that none is read after the one that has the last
abbrev pub Together : List ℕ → ℕ → ℕ → ℕ → ℕ → ℕ → ℕ → Type 0
Together l from limit i left b c =
    (0 < b) × (i + b ≤ bytes_for limit) × (clear_in l from limit i + c ≡ clear_in l from limit (i + b)) × (left ≤ c → b ≡ 1)

-- what a search for k clear bits below the limit finds
unfoldable pub told_of : List ℕ → ℕ → ℕ → ℕ → Told
told_of l from limit k =
    record { enough = leb k (clear_in l from limit (bytes_for limit)); bytes = bytes_read l from limit k (bytes_for limit) }

-- yes exactly if k indexes in reach are clear; and the bytes of the bitmap that are read
unfoldable pub room_in : Geo → List ℕ → ℕ → Told
room_in g I k =
    record {
      enough = leb k (length (clears g I));
      bytes = bytes_read I (block_size g * map_at g) (reach g) k (bytes_for (reach g));
    }
