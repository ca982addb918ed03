-- A holding directory in the tree: what its numbers are there. B is the block size. Definitions alone.
use Rattle.std.specs.Prelude.{◌≡◌, List, ℕ, ◌+◌, length}
use Rattle.std.proofs.Math.Option.{some}
use Rattle.model.specs.Tree.{Name, Tree, Some, find}
use Rattle.model.specs.Render.{blocks_at}
use Rattle.own_entry.specs.Own.{OwnOf}
use Rattle.dir.specs.Hold.{Hold}

-- That is the directory that the names p lead to, from the root of a tree of d levels: it begins at its address, it is as deep as
-- there are names (the root is at 0), these and its own levels are the tree's, and so is its own entry, if it has one.
pub record HeldAt (B d : ℕ) (p : List Name) (t : Tree d) (h : Hold) : Type 0 where
  pub there : Some
  pub found : find d p t ≡ some there
  pub starts : blocks_at there.1 ≡ h.dir
  pub deep : h.depth ≡ length p
  pub levels : there.0 + length p ≡ d
  pub own : OwnOf B d p t h.own
