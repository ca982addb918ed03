-- A handle and the tree: when it is one of a file, and when it is stale. Definitions alone.
use Rattle.std.specs.Prelude.{◌≡◌, true, ◌⊎◌, List, ℕ}
use Rattle.std.proofs.Math.Option.{none, some}
use Rattle.model.specs.Tree.{Name, Cell, Tree, lookup, Some}
use Rattle.model.specs.Render.{cells_at}
use Rattle.model.specs.Calls.{DirAt, path_to, file_entry}
use Rattle.handle.specs.declared.Handle.{Handle}
use Rattle.handle.specs.Handles.{name_of, stale_fields}

-- H3: the directory has a file entry with the handle's name, address and size.
pub record FileIn (h : Handle) (dir : Some) : Type 0 where
  pub time : ℕ
  pub cells : List Cell
  pub held : lookup (name_of h) dir.1 ≡ some (file_entry (name_of h) time h.size cells)
  pub starts : cells_at cells ≡ h.addr.0

-- The handle's directory is one reached from the root, and has that entry.
pub record OnFile (d : ℕ) (t : Tree d) (h : Handle) : Type 0 where
  pub path : List Name
  pub there : DirAt d h.dir.0 path t
  pub file : FileIn h there.dir

-- H3, H4: its directory is not reached from the root, or is reached and has no such entry.
abbrev pub Lost : (d : ℕ) → Tree d → Handle → Type 0
Lost d t h = (path_to d h.dir.0 t ≡ none) ⊎ ((p : List Name) × (s : DirAt d h.dir.0 p t) × (FileIn h s.dir → ⊥))

-- R11, of a write: by the handle's own fields, or by the tree.
abbrev pub Stale : (d : ℕ) → Tree d → Handle → Type 0
Stale d t h = (stale_fields h ≡ true) ⊎ Lost d t h
