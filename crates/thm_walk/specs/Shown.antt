-- What a directory of the tree shows to a reader. Definitions alone.
use Rattle.std.specs.Prelude.{List, [], ◌∷◌, ℕ, ◌+◌}
use Rattle.wire.specs.Pick.{pick}
use Rattle.model.specs.Tree.{Name, Entry, Block, holds, weight}
use Rattle.model.specs.Render.{View, offset}
use Rattle.dir_entry.specs.declared.DirEntry.{DirEntry}
use Rattle.dir_entry.specs.Shown.{head_of}
use Rattle.read_dir.specs.Walk.{Walk, item, finished, damaged}
use Rattle.read_dir.specs.Finds.{placed}
use Rattle.read_dir.specs.declared.Place.{Place}

-- The entries of a block at address a, the first of them at offset o, and then w.
unfoldable pub items_of : {X : Type 0} → View X → ℕ → ℕ → List (Entry X) → Walk → Walk
items_of v a o [] w = w
items_of v a o (e ∷ es) w = item (head_of v e) a o e.name (items_of v a (o + weight e) es w)

-- The walk of a directory: its entries in chain order, and its end.
unfoldable pub walk_of : {X : Type 0} → View X → List (Block X) → Walk
walk_of v [] = finished
walk_of v (b ∷ bs) = items_of v b.at 0 b.entries (walk_of v bs)

-- The place of the entry of that name: the first block that holds it, and the offset there.
unfoldable pub spot_of : {X : Type 0} → Name → List (Block X) → Place
spot_of n [] = placed 0 0
spot_of n (b ∷ bs) = pick (holds n b) (placed b.at (offset n b.entries)) (spot_of n bs)

-- The fixed part and the name of each entry of a walk.
unfoldable pub items_in : Walk → List (DirEntry × List ℕ)
items_in (item e a o x w) = (e, x) ∷ items_in w
items_in finished = []
items_in damaged = []
