-- A write and the tree: when it finds no room, and when it is accepted. Definitions alone.
use Rattle.std.specs.Prelude.{◌≡◌, false, ℕ, ◌+◌, ◌-◌, ◌≤◌, ◌<◌, length}
use Rattle.model.specs.Tree.{Tree}
use Rattle.model.specs.Geometry.{Geo, block_size}
use Rattle.model.specs.Volume.{file_limit, blocks_for}
use Rattle.model.specs.Calls.{free_blocks}
use Rattle.handle.specs.declared.Handle.{Handle}
use Rattle.handle.specs.Handles.{stale_fields}
use Rattle.handle.specs.OnTree.{OnFile}

-- C12: the blocks that a write of len bytes takes: those of the new size, less those of the chain.
abbrev pub to_add : (B d : ℕ) (t : Tree d) (h : Handle) → ℕ → OnFile d t h → ℕ
to_add B d t h len q = blocks_for B (h.position + len) - length q.file.cells

-- R9, of a write of len bytes: not 13, 11, 10, and fewer free blocks in reach than it takes.
pub record NoRoom (g : Geo) (d : ℕ) (t : Tree d) (h : Handle) (len : ℕ) : Type 0 where
  pub some_bytes : 1 ≤ len
  pub fields : stale_fields h ≡ false
  pub on_file : OnFile d t h
  pub limit : h.position + len ≤ file_limit
  pub few : length (free_blocks g d t) < to_add (block_size g) d t h len on_file

-- The other side of all of them.
pub record Accepts (g : Geo) (d : ℕ) (t : Tree d) (h : Handle) (len : ℕ) : Type 0 where
  pub some_bytes : 1 ≤ len
  pub fields : stale_fields h ≡ false
  pub on_file : OnFile d t h
  pub limit : h.position + len ≤ file_limit
  pub enough : to_add (block_size g) d t h len on_file ≤ length (free_blocks g d t)
