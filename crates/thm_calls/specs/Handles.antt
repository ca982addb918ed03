-- Handles of a file of the tree. Definitions alone.
use Rattle.std.specs.Prelude.{◌≡◌, List, ℕ, ◌≤◌, length}
use Rattle.std.proofs.Math.Option.{Option, none, some}
use Rattle.wire.specs.Pick.{pick}
use Rattle.model.specs.Tree.{Name, Cell, Entry}
use Rattle.model.specs.Render.{View, cells_at}
use Rattle.dir_entry.specs.Shown.{head_of}
use Rattle.handle.specs.declared.Handle.{Handle}
use Rattle.handle.specs.Handles.{name_of, current}

-- The handle is one of the file n in the directory that starts at a, z bytes in the blocks cs, and its position is in the file.
pub record HandleOf (a : ℕ) (n : Name) (z : ℕ) (cs : List Cell) (h : Handle) : Type 0 where
  pub dir : h.dir.0 ≡ a
  pub name : name_of h ≡ n
  pub letters : h.len ≡ length n
  pub addr : h.addr.0 ≡ cells_at cs
  pub size : h.size ≡ z
  pub position : h.position ≤ z

-- 0 where the entry that the handle's name gives is a file's with the handle's address and size, else 11.
unfoldable pub held_by : {X : Type 0} → View X → Handle → Option (Entry X) → ℕ
held_by v h none = 11
held_by v h (some e) = pick (current h (head_of v e) e.name) 0 11
