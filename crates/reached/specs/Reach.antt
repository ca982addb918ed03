-- Which directories are reached from one, on the bytes of any image. Definitions alone.
-- A is the data area: the size of its blocks, its first address and the volume's end.
use Rattle.std.specs.Prelude.{◌≡◌, Bool, true, false, List, ℕ, zero, suc, eqb}
use Rattle.std.proofs.Math.Option.{Option, none, some}
use Rattle.wire.specs.Pick.{pick}
use Rattle.block.specs.Block.{Area}
use Rattle.model.specs.Tree.{Name, Tree}
use Rattle.model.specs.Calls.{DirAt}
use Rattle.dir_entry.specs.declared.Kind.{Kind}
use Rattle.dir_entry.specs.declared.Kind.TheVariants.{Dir, File, Device}
use Rattle.dir_entry.specs.declared.DirEntry.{DirEntry}
use Rattle.read_dir.specs.Walk.{Walk, item, finished, damaged, walk}

-- b for a directory; a file and a device lead nowhere
abbrev pub if_dir : Kind → Bool → Bool
if_dir Dir b = b
if_dir File b = false
if_dir Device b = false

-- what f says of the address of an entry that is a directory's
unfoldable pub on_dir : (ℕ → Bool) → DirEntry → Bool
on_dir f e = if_dir e.kind (f e.addr.0)

-- Whether an entry of a walk passes; no entry follows damage.
unfoldable pub any_in : (DirEntry → Bool) → Walk → Bool
any_in f (item e a o x w) = pick (f e) true (any_in f w)
any_in f finished = false
any_in f damaged = false

-- H4: directories are walked in their turn, the levels falling: whether the directory whose first block is `target` is the one at
-- a, or is reached from it through at most d levels of directories.
unfoldable pub reaches : (A : Area) (I : List ℕ) (target : ℕ) → ℕ → ℕ → Bool
reaches A I target zero a = eqb target a
reaches A I target (suc d) a = pick (eqb target a) true (any_in (on_dir (reaches A I target d)) (walk A I a))

-- H4: in the tree, whether there is a path to it.
abbrev pub has_path : Option (List Name) → Bool
has_path none = false
has_path (some p) = true

-- The one path to the directory that starts at a.
pub record OnlyPath (d a : ℕ) (t : Tree d) : Type 0 where
  pub path : List Name
  pub there : DirAt d a path t
  pub only : (q : List Name) → DirAt d a q t → q ≡ path
