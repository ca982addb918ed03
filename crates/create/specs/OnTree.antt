-- The refusals of a create that depend on the tree. Definitions alone.
use Rattle.std.specs.Prelude.{◌&&◌, List, [], ◌∷◌, ℕ, ltb, eqb, length}
use Rattle.model.specs.Answers.{when, first_of}
use Rattle.model.specs.Tree.{Name, any, holds, Some}
use Rattle.model.specs.Geometry.{Geo}
use Rattle.model.specs.Calls.{entry_room, to_create}
use Rattle.dir_entry.specs.declared.Kind.{Kind}
use Rattle.dir_entry.specs.Entry.{is_dir}

-- R15, R7, R9 in the order O9: in the directory s of the tree, for the name n, with `free` the free blocks in reach; else 0.
-- A directory with no level left is at depth 16.
unfoldable pub tree_refusal : Geo → List ℕ → Kind → Name → Some → ℕ
tree_refusal g free k n s =
    first_of (when 15 (is_dir k && eqb s.0 0) ∷
    (when 7 (any (holds n) s.1) ∷
    (when 9 (ltb (length free) (to_create (entry_room g) n s.1)) ∷ [])))
