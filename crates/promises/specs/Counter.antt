-- S3, S4: the files and devices that a call may not touch, and a handle that is stale at a call's entry. Definitions alone.
use Rattle.std.specs.Prelude.{◌≡◌, ◌⊎◌, List, ℕ, ◌+◌, ◌*◌, ◌≤◌, ◌<◌, get_or}
use Rattle.std.proofs.Math.Option.{Option, none, some}
use Rattle.model.specs.Geometry.{Mount}
use Rattle.model.specs.Tree.{Name, Cell, Node, file, device, sub, Tree, then, lookup, find}
use Rattle.model.specs.Render.{count}
use Rattle.model.specs.Volume.{WellFormed, max_depth}
use Rattle.model.specs.Calls.{file_at, DirAt, places}
use Rattle.handle.specs.declared.Handle.{Handle}
use Rattle.handle.specs.Handles.{name_of}
use Rattle.handle.specs.OnTree.{Stale}

-- size, time and blocks of the device at a path, as `file_at` says them of a file
unfoldable pub device_of : {X : Type 0} → ℕ → Node X → Option (ℕ × ℕ × List Cell)
device_of k (file s cs) = none
device_of k (device s cs) = some (s, k, cs)
device_of k (sub x) = none

unfoldable pub device_at : (d : ℕ) → List Name → Name → Tree d → Option (ℕ × ℕ × List Cell)
device_at d p n t = then (find d p t) (λ s. then (lookup n s.1) (λ e. device_of e.time e.node))

-- S3, untouched: with the tree t of I and u of J, the file or the device at q, m has the same size, time, blocks and bytes before
-- and after, and every byte of its blocks (of B bytes) in the image is as it was; where there was none, there is none.
pub record Untouched (B d : ℕ) (t u : Tree d) (I J : List ℕ) (q : List Name) (m : Name) : Type 0 where
  pub same_file : file_at d q m u ≡ file_at d q m t
  pub same_device : device_at d q m u ≡ device_at d q m t
  pub same_bytes : (z k : ℕ) (cs : List Cell) → (file_at d q m t ≡ some (z, k, cs)) ⊎ (device_at d q m t ≡ some (z, k, cs))
      → (b i : ℕ) → 1 ≤ count b (places cs) → i < B → get_or J (B * b + i) 0 ≡ get_or I (B * b + i) 0

-- S3, another file: the path q, m is not the one that the handle names, which is its name in the directory that starts at its
-- address.
abbrev pub Another : (d : ℕ) → Tree d → Handle → List Name → Name → Type 0
Another d t h q m = DirAt d h.dir.0 q t → name_of h ≡ m → ⊥

-- S4, stale at a call's entry: on the tree of the image there, whatever the handle was before and wherever it was opened (H3).
-- An image that is not well formed has no tree; there the check refuses every write.
abbrev pub StaleAtEntry : Mount → List ℕ → Handle → Type 0
StaleAtEntry M I h = (w : WellFormed M I) → Stale max_depth w.tree h
