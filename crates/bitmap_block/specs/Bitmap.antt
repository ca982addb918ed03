-- The bitmap: what is read of it, and what taking and freeing a block make of the image.
use Rattle.std.specs.Prelude.{List, ℕ, ◌+◌, ◌-◌, ◌*◌, ◌≤◌, length, get_or}
use Rattle.bits.specs.Bit.{bit, with_bit}
use Rattle.block.specs.Block.{zeroed}
use Rattle.model.specs.Geometry.{Geo, block_size, map_at, data_at, reach, used_count}
use Rattle.model.specs.Calls.{clear_from}
use Rattle.super_block.specs.Super.{counted}

-- F5: the bit of index x. The rule gives its bitmap block, the byte there and the place in that; but the bitmap blocks stand side
-- by side, so that is bit x of the bytes from block a on (`mark_place` in proofs/).
unfoldable pub mark : Geo → List ℕ → ℕ → ℕ
mark g I x = bit I (block_size g * map_at g) x

-- The image with v as the bit of index x.
unfoldable pub marked : Geo → List ℕ → ℕ → ℕ → List ℕ
marked g I x v = with_bit I (block_size g * map_at g) x v

-- The addresses of the clear indexes in reach, lowest first.
unfoldable pub clears : Geo → List ℕ → List ℕ
clears g I = clear_from (λ b. mark g I (b - data_at g)) (data_at g) (reach g)

-- F6: the address of the block that is taken next.
unfoldable pub fresh : Geo → List ℕ → ℕ
fresh g I = get_or (clears g I) 0 0

-- The used count one more, or one fewer.
unfoldable pub more : Geo → List ℕ → List ℕ
more g I = counted g I (used_count g I + 1)

unfoldable pub fewer : Geo → List ℕ → List ℕ
fewer g I = counted g I (used_count g I - 1)

-- F6: the block of index x is taken: zeroed, marked and counted.
unfoldable pub taken : Geo → List ℕ → ℕ → List ℕ
taken g I x = more g (marked g (zeroed (block_size g) I (data_at g + x) 1) x 1)

-- F7: it is given back: zeroed too, so that nothing of what it held is left, unmarked and no longer counted.
unfoldable pub freed : Geo → List ℕ → ℕ → List ℕ
freed g I x = fewer g (marked g (zeroed (block_size g) I (data_at g + x) 1) x 0)

-- R9, its other side: so many indexes in reach are clear, and the used count can grow by as many.
pub record Room (g : Geo) (I : List ℕ) (k : ℕ) : Type 0 where
  pub clear : k ≤ length (clears g I)
  pub count : used_count g I + k ≤ g.n
