-- A patch and the tree: when it is accepted. Definitions alone.
use Rattle.std.specs.Prelude.{◌≡◌, false, ℕ, ◌+◌, ◌≤◌}
use Rattle.model.specs.Tree.{Tree}
use Rattle.handle.specs.declared.Handle.{Handle}
use Rattle.handle.specs.Handles.{stale_fields}
use Rattle.handle.specs.OnTree.{OnFile}

-- O14: a patch of len bytes is refused by none of 13, 11, 19.
pub record Patchable (d : ℕ) (t : Tree d) (h : Handle) (len : ℕ) : Type 0 where
  pub some_bytes : 1 ≤ len
  pub fields : stale_fields h ≡ false
  pub on_file : OnFile d t h
  pub inside : h.position + len ≤ h.size
