-- The stores of a patch, in the order of the code, and what they ask of the image. Definitions alone.
use Rattle.std.specs.Prelude.{List, ℕ, ◌+◌, ◌≤◌, length}
use Rattle.model.specs.Geometry.{Geo, block_size}
use Rattle.model.specs.Volume.{file_limit, blocks_for}
use Rattle.dir_entry.specs.declared.DirEntry.{DirEntry}
use Rattle.read_dir.specs.declared.Place.{Place}
use Rattle.std.specs.declared.option.Option.TheVariants as option
use Rattle.own_entry.specs.Own.{own_renewed}
use Rattle.write_store.specs.Write.{spread, Chained, Stands}

-- C19: the bytes vs lie over those from position c on of the file of entry e, which stands at p. They go into the chain's blocks
-- up to the one of the last byte; the entry has its size as before, and the time.
unfoldable pub patched : Geo → List ℕ → DirEntry → Place → ℕ → List ℕ → ℕ → List ℕ
patched g I e p c vs time =
    own_renewed (block_size g)
    (spread (block_size g) I e.addr.0 c vs (blocks_for (block_size g) (c + length vs)))
    (option.Some p) e.size time

-- The other side of refusals 13, 11 and 19, and a file as the check leaves it.
pub record CanPatch (g : Geo) (I : List ℕ) (e : DirEntry) (p : Place) (c len : ℕ) : Type 0 where
  pub some_bytes : 1 ≤ len
  pub inside : c + len ≤ e.size
  pub limit : e.size ≤ file_limit
  pub chain : Chained g I e.addr.0 (blocks_for (block_size g) e.size)
  pub entry : Stands g p
