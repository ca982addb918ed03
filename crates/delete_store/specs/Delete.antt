-- Deleting an entry: what the stores make of the image, in their order. B is the block size. Definitions alone.
use Rattle.std.specs.Prelude.{List, ℕ, zero, suc, ◌+◌, ◌-◌, ◌*◌, leb, eqb, take, drop}
use Rattle.wire.specs.Be.{splice, zeros}
use Rattle.wire.specs.Pick.{pick, zero_from}
use Rattle.block.specs.Block.{next, linked}
use Rattle.model.specs.Geometry.{Geo, block_size, data_at}
use Rattle.chain_store.specs.Chain.{released, chain_freed}
use Rattle.dir_entry.specs.declared.DirEntry.{DirEntry}
use Rattle.dir_entry.specs.Entry.{header, place_at}
use Rattle.read_dir.specs.declared.Place.{Place}
use Rattle.own_entry.specs.Own.{Own, sum_renewed}

-- ---- the entry's bytes

-- How many bytes of a block's data stand after the w bytes at offset o.
abbrev pub after : ℕ → ℕ → ℕ → ℕ
after B o w = B - 4 - (o + w)

-- C11: the w bytes at offset o of block a go: what is behind them moves down, and zeros come in at the end.
unfoldable pub cut_out : ℕ → List ℕ → ℕ → ℕ → ℕ → List ℕ
cut_out B I a o w =
    splice (splice I (place_at B a o) (take (after B o w) (drop (place_at B a o + w) I))) (place_at B a o + after B o w) (zeros w)

-- ---- a block that is emptied

-- The block of a chain whose next address is b: from a on, of at most k blocks, and no further than a block below n.
unfoldable pub before_from : ℕ → ℕ → List ℕ → ℕ → ℕ → ℕ → ℕ
before_from B n I zero a b = a
before_from B n I (suc k) a b = pick (eqb (next B I a) b) a (pick (leb n (next B I a)) a (before_from B n I k (next B I a) b))

-- C11: the block before b in the directory's chain gets b's next address, and then b is given back, which wipes it.
unfoldable pub unlinked : Geo → List ℕ → ℕ → ℕ → List ℕ
unlinked g I dir b =
    released g (linked (block_size g) I (before_from (block_size g) g.n I (g.n - data_at g) dir b) (next (block_size g) I b)) b

-- C11: that is done with a block that is not the first and has no entry: all its data bytes are zero.
unfoldable pub less_bare : Geo → List ℕ → ℕ → ℕ → List ℕ
less_bare g I dir b = pick (eqb b dir) I (pick (zero_from I (block_size g * b + 4) (block_size g - 4)) (unlinked g I dir b) I)

-- ---- the whole

-- The image without the entry's bytes, and without its block where that is empty now.
unfoldable pub entry_gone : Geo → List ℕ → ℕ → DirEntry → Place → List ℕ
entry_gone g I dir e p = less_bare g (cut_out (block_size g) I p.block.0 p.offset (header + e.len)) dir p.block.0

-- C11, C13: the entry e at p of the directory that begins at block dir goes; that directory's own entry stands at `own`.
unfoldable pub removed : Geo → List ℕ → ℕ → DirEntry → Place → Own → ℕ → List ℕ
removed g I dir e p own time = sum_renewed g (chain_freed g (entry_gone g I dir e p) (g.n - data_at g) e.addr.0) dir own time
