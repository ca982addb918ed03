-- What the path of a call names in the tree of a well-formed image, and what a listing shows of a directory. Definitions alone.
use Rattle.std.specs.Prelude.{◌≡◌, List, [], ◌∷◌, ◌++◌, ℕ, suc, ◌+◌, ltb, length, take, drop}
use Rattle.std.proofs.Math.Option.{some}
use Rattle.wire.specs.Pick.{pick}
use Rattle.model.specs.Geometry.{Mount}
use Rattle.model.specs.Tree.{Name, Entry, Below, Some, find}
use Rattle.model.specs.Render.{View, view}
use Rattle.model.specs.Volume.{WellFormed, max_depth}
use Rattle.dir_entry.specs.declared.DirEntry.{DirEntry}
use Rattle.dir_entry.specs.Shown.{head_of}
use Rattle.read_dir.specs.Finds.{record_of}
use Rattle.path.specs.Path.{real_path, last_name, dir_part, steps}
use Rattle.call_read.specs.Reading.{size}

-- The names on the way to the last name of a call's path, that last name, and the names of the whole path.
abbrev pub way_of : List ℕ → List ℕ → List Name
way_of cwd p = steps (dir_part (real_path cwd p))

abbrev pub last_of : List ℕ → List ℕ → Name
last_of cwd p = last_name (real_path cwd p)

abbrev pub all_of : List ℕ → List ℕ → List Name
all_of cwd p = steps (real_path cwd p)

module _ (M : Mount) (I : List ℕ) where
  -- The names lead from the root to the directory s.
  abbrev pub LeadsTo : WellFormed M I → List Name → Some → Type 0
  LeadsTo w q s = find max_depth q w.tree ≡ some s

  -- What the image shows of a directory of d levels, and of its entries the fixed part.
  abbrev pub view_at : (d : ℕ) → View (Below d)
  view_at d = view (size M I) d

  abbrev pub head_at : (d : ℕ) → Entry (Below d) → DirEntry
  head_at d e = head_of (view_at d) e

-- ---- listings

module _ {X : Type 0} where
  -- C6: how many bytes the records of these entries have, and the bytes.
  unfoldable pub records_long : List (Entry X) → ℕ
  records_long [] = 0
  records_long (e ∷ es) = 14 + length e.name + records_long es

  unfoldable pub records_of : View X → List (Entry X) → List ℕ
  records_of v [] = []
  records_of v (e ∷ es) = record_of (head_of v e) e.name ++ records_of v es

  -- C6: how many of these entries go into a buffer of
  -- cap bytes, after b bytes.
  unfoldable pub fitting : ℕ → ℕ → List (Entry X) → ℕ
  fitting cap b [] = 0
  fitting cap b (e ∷ es) = pick (ltb (b + (14 + length e.name)) cap) (suc (fitting cap (b + (14 + length e.name)) es)) 0

  -- The entries that a listing from number i on shows in a buffer of cap bytes.
  unfoldable pub listed_from : ℕ → ℕ → List (Entry X) → List (Entry X)
  listed_from i cap es = take (fitting cap 0 (drop i es)) (drop i es)
