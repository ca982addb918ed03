-- The stores of a write, in the order of the code, and what a write asks of the image. B is the block size. Definitions alone.
use Rattle.std.specs.Prelude.{◌≡◌, List, ℕ, zero, suc, ◌+◌, ◌-◌, ◌/◌, ◌%◌, ◌≤◌, ◌<◌, ltb, length, take, drop}
use Rattle.wire.specs.Be.{splice}
use Rattle.wire.specs.Pick.{pick}
use Rattle.block.specs.Block.{next, linked}
use Rattle.model.specs.Tree.{Cell}
use Rattle.model.specs.Render.{cells_at, cell_pieces, count, ShowsAll}
use Rattle.model.specs.Geometry.{Geo, block_size, data_at, map_bits, used_count}
use Rattle.model.specs.Volume.{All, GoodCell, file_limit, blocks_for}
use Rattle.model.specs.Calls.{places}
use Rattle.bitmap_block.specs.Bitmap.{mark, taken, Room, fresh}
use Rattle.chain_store.specs.Chain.{chain_freed}
use Rattle.dir_entry.specs.Entry.{header, place_at}
use Rattle.dir_entry.specs.declared.DirEntry.{DirEntry}
use Rattle.read_dir.specs.declared.Place.{Place}
use Rattle.std.specs.declared.option.Option.TheVariants as option
use Rattle.own_entry.specs.Own.{own_renewed}

-- ---- along a chain

-- The address k links after a.
unfoldable pub hop : ℕ → List ℕ → ℕ → ℕ → ℕ
hop B I zero a = a
hop B I (suc k) a = hop B I k (next B I a)

-- W2: the first k blocks of the chain from a on lie in the data area.
pub record Along (g : Geo) (I : List ℕ) (a k : ℕ) : Type 0 where
  pub at : (i : ℕ) → i < k → (data_at g ≤ hop (block_size g) I i a) × (hop (block_size g) I i a < g.n)

-- ---- blocks added

-- F6: the image with the next free block taken, and linked behind block `last`.
unfoldable pub grown : Geo → List ℕ → ℕ → List ℕ
grown g I last = linked (block_size g) (taken g I (fresh g I - data_at g)) last (fresh g I)

-- C12: the blocks that are missing, k of them, one after the other behind block `last`.
unfoldable pub extended : Geo → List ℕ → ℕ → ℕ → List ℕ
extended g I last zero = I
extended g I last (suc k) = extended g (grown g I last) (fresh g I) k

-- ---- blocks freed

-- C12: the blocks that are not needed any more, k of them behind block `last`, which ends its chain then.
unfoldable pub cut_after : Geo → List ℕ → ℕ → ℕ → List ℕ
cut_after g I last k = linked (block_size g) (chain_freed g I k (next (block_size g) I last)) last 0

-- The chain from a on with `new` blocks for its `old`.
unfoldable pub resized : Geo → List ℕ → ℕ → ℕ → ℕ → List ℕ
resized g I a old new =
    pick (ltb old new)
    (extended g I (hop (block_size g) I (old - 1) a) (new - old))
    (cut_after g I (hop (block_size g) I (new - 1) a) (old - new))

-- ---- the bytes

-- The bytes vs into k blocks of the chain from a on, from data byte o of the first on: a run of each block.
unfoldable pub poured : ℕ → List ℕ → ℕ → ℕ → List ℕ → ℕ → List ℕ
poured B I a o vs zero = I
poured B I a o vs (suc k) = poured B (splice I (place_at B a o) (take (B - 4 - o) vs)) (next B I a) 0 (drop (B - 4 - o) vs) k

-- The bytes vs from byte c on of the chain of m blocks from a on.
unfoldable pub spread : ℕ → List ℕ → ℕ → ℕ → List ℕ → ℕ → List ℕ
spread B I a c vs m = poured B I (hop B I (c / (B - 4)) a) (c % (B - 4)) vs (m - c / (B - 4))

-- ---- a write

-- C12: the bytes vs are written at position c of the file of entry e, which stands at p.
unfoldable pub wrote : Geo → List ℕ → DirEntry → Place → ℕ → List ℕ → ℕ → List ℕ
wrote g I e p c vs time =
    own_renewed (block_size g)
    (spread (block_size g)
    (resized g I e.addr.0 (blocks_for (block_size g) e.size) (blocks_for (block_size g) (c + length vs)))
    e.addr.0 c vs (blocks_for (block_size g) (c + length vs)))
    (option.Some p) (c + length vs) time

-- ---- what it asks

-- W2, W4 and W5 of one chain: the image shows these blocks with their next addresses, 0 in the last; each is whole, in D..n-1,
-- has a bit and is marked; none is there twice.
pub record HeldCells (g : Geo) (I : List ℕ) (cells : List Cell) : Type 0 where
  pub shown : ShowsAll (block_size g) I (cell_pieces cells)
  pub whole : All (GoodCell (block_size g)) cells
  pub once : (i : ℕ) → count i (places cells) ≤ 1
  pub range : (i : ℕ) → 1 ≤ count i (places cells) → (data_at g ≤ i) × (i < g.n)
  pub has_bit : (i : ℕ) → 1 ≤ count i (places cells) → i < data_at g + map_bits g
  pub marked : (i : ℕ) → 1 ≤ count i (places cells) → mark g I (i - data_at g) ≡ 1

-- The chain from a on has k blocks.
pub record Chained (g : Geo) (I : List ℕ) (a k : ℕ) : Type 0 where
  pub cells : List Cell
  pub starts : cells_at cells ≡ a
  pub long : length cells ≡ k
  pub held : HeldCells g I cells

-- The chain may be given `new` blocks for its `old`: there is room for what is missing, and the used count has what is freed.
pub record Resizable (g : Geo) (I : List ℕ) (a old new : ℕ) : Type 0 where
  pub chain : Chained g I a old
  pub some_old : 1 ≤ old
  pub some_new : 1 ≤ new
  pub room : Room g I (new - old)
  pub enough : old ≤ used_count g I

-- The entry's fixed part lies in the volume.
pub record Stands (g : Geo) (p : Place) : Type 0 where
  pub block : p.block.0 < g.n
  pub fits : p.offset + header ≤ block_size g - 5

-- The other side of refusals 13, 11, 10 and 9, and a file as the check leaves it.
pub record CanWrite (g : Geo) (I : List ℕ) (e : DirEntry) (p : Place) (c len : ℕ) : Type 0 where
  pub some_bytes : 1 ≤ len
  pub position : c ≤ e.size
  pub limit : c + len ≤ file_limit
  pub size : Resizable g I e.addr.0 (blocks_for (block_size g) e.size) (blocks_for (block_size g) (c + len))
  pub entry : Stands g p
