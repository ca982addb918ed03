use mathlib.Core.Path.{◌≡◌}
use Prim.Native.Nat.{◌-◌, ◌*◌, ◌≤◌, ◌<◌}
use lib.ListN.{length}
use Rattle.bits.specs.Bit.{AllSet}
use Rattle.model.specs.Geometry.{block_size, map_at, data_at}
use Rattle.super_block.specs.Super.{geo_of, Fit}
use Rattle.bitmap_block.specs.Bitmap.{Room}
use Rattle.write_store.specs.Write.{extended}
use Rattle.write_store.proofs.extend.Given as goal

abbrev pub invariant-loop : goal.invariant-loop
invariant-loop l = (Fit l.s l.img) × (Room (geo_of l.s) l.img (l.k - l.counter)) × ((data_at (geo_of l.s) ≤ l.b.0) × (l.b.0 < l.s.blocks)) × (length l.img ≡ length l.initial.img)
    × (extended (geo_of l.s) l.img l.b.0 (l.k - l.counter) ≡ extended (geo_of l.s) l.initial.img l.initial.b.0 l.k) × (AllSet l.img (block_size (geo_of l.s) * map_at (geo_of l.s)) 0 l.from)
