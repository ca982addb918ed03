-- What the functions answer, as it is on paper. Definitions alone.
use Rattle.std.specs.Prelude.{List, ℕ}
use Rattle.super_block.specs.declared.SuperBlock.{SuperBlock}
use Rattle.super_block.specs.Super.{area_in, geo_of}
use Rattle.bitmap_block.specs.Bitmap.{Room}
use Rattle.create_store.specs.declared.Spot.{Spot}
use Rattle.create_store.specs.Create.{needed, SpotIn}
use Rattle.dir.specs.Hold.{Hold}
use Rattle.create.specs.Creating.{Site, Fresh}
use Rattle.create.specs.declared.Created.{Created}

-- the site of a spot in the directory h
abbrev pub sited : Hold → Spot → Site
sited h p = record { dir = h.dir; spot = p; own = h.own }

-- There is room for the blocks, and the spot lies in the data area and holds a name of len bytes.
abbrev pub SitedIn : SuperBlock → List ℕ → ℕ → Spot → Type 0
SitedIn s I len p = Room (geo_of s) I (needed p) × SpotIn (area_in s) len p

abbrev pub made : Created → Fresh
made c = record { dir = c.dir.0; block = c.block.0 }
