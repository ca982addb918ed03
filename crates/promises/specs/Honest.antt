-- When a create has no room: said of the tree of the image at the call's entry. Definitions alone.
use Rattle.std.specs.Prelude.{◌≡◌, false, List, ℕ, ◌≤◌, ◌<◌, length}
use Rattle.model.specs.Tree.{Name, Tree}
use Rattle.model.specs.Geometry.{Geo}
use Rattle.model.specs.Calls.{Vacant, free_blocks, entry_room, to_create}
use Rattle.dir_entry.specs.declared.Kind.{Kind}
use Rattle.dir_entry.specs.declared.Kind.TheVariants.{Dir}
use Rattle.create.specs.Creating.{bad_name}

-- A create of that kind at p, n gets none of 8, 5, 6, 15, 7: the name is one, and the path names nothing in a directory that is
-- there. For a new directory that one has a level left below it, so that it is not at depth 16 (R15);
pub record Creatable (k : Kind) (d : ℕ) (p : List Name) (n : Name) (t : Tree d) : Type 0 where
  pub named : bad_name n ≡ false
  pub vacant : Vacant d p n t
  pub shallow : k ≡ Dir → 1 ≤ vacant.dir.0

-- R9: and the free blocks in reach are fewer than the blocks that it adds.
pub record CreateFull (g : Geo) (k : Kind) (d : ℕ) (p : List Name) (n : Name) (t : Tree d) : Type 0 where
  pub may : Creatable k d p n t
  pub few : length (free_blocks g d t) < to_create (entry_room g) n may.vacant.dir.1
