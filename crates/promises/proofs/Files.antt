-- The file or the device at a path: the entry that its directory has, and its blocks in the image.
use mathlib.Core.Path.{◌≡◌, refl, sym, ◌∙◌, subst}
use mathlib.Core.Logic.{◌⊎◌, inl, inr}
use mathlib.Core.Option.{Option, none, some}
use mathlib.Core.List.{List, [], ◌∷◌}
use Prim.Native.Nat.{ℕ, zero, suc, ◌+◌, ◌*◌, ◌≤◌, ◌<◌}
use native.Mathlib.Omega.{arith}
use lib.ListN.{get_or}
use Rattle.model.specs.Tree.{Name, Cell, Node, file, device, sub, Entry, Below, Tree, then, lookup, inside, Some, find}
use Rattle.model.specs.Render.{cell_pieces, node_pieces, view, render, count, ShowsAll}
use Rattle.model.specs.Geometry.{Geo, block_size}
use Rattle.model.specs.Volume.{All, GoodNode, GoodBelow, Laid}
use Rattle.model.specs.Calls.{Occupied, file_of, file_at, places}
use Rattle.model.proofs.Alike.{alike_refl}
use Rattle.model.proofs.Areas.{size_large}
use Rattle.model.proofs.Demand.{shown_near}
use Rattle.model.proofs.Full.{good_lookup, Whole, whole_cells}
use Rattle.model.proofs.Counts.{ats_cells}
use Rattle.model.proofs.Lists.{not_some, then_some}
use Rattle.thm_walk.proofs.Parts.{laid_part, part_find, stored_lookup}
use Rattle.promises.specs.Counter.{device_of, device_at}
use Rattle.promises.proofs.Others.{read_at, read_there}

-- ---- the entry

-- what is read of an entry's time and node
abbrev pub as_file : (X : Type 0) → ℕ → Node X → Option (ℕ × ℕ × List Cell)
as_file X k x = file_of k x

abbrev pub as_device : (X : Type 0) → ℕ → Node X → Option (ℕ × ℕ × List Cell)
as_device X k x = device_of k x

-- The file at a path is the one that its directory has,
pub file_is : (d : ℕ) (p : List Name) (n : Name) (t : Tree d) → file_at d p n t ≡ read_at as_file n d p t
unfolding find file_at inside then
file_is zero [] n t = refl
file_is (suc d) [] n t = refl
file_is zero (a ∷ p) n t = refl
file_is (suc d) (a ∷ p) n t = go (lookup a t) (file_is d p n)
  where
    into : (x : Node (Tree d)) → ((u : Tree d) → file_at d p n u ≡ read_at as_file n d p u)
        → inside (file_at d p n) x ≡ then (inside (find d p) x) (λ s. then (lookup n s.1) (λ e. file_of e.time e.node))
    into (file z cs) r = refl
    into (device z cs) r = refl
    into (sub u) r = r u

    go : (x : Option (Entry (Tree d))) → ((u : Tree d) → file_at d p n u ≡ read_at as_file n d p u)
        → then x (λ e. inside (file_at d p n) e.node) ≡ then (then x (λ e. inside (find d p) e.node)) (λ s. then (lookup n s.1) (λ e. file_of e.time e.node))
    go none r = refl
    go (some y) r = into y.node r

pub file_at_lem : (d : ℕ) (p : List Name) (n : Name) (t : Tree d) (s : Some) → find d p t ≡ some s → file_at d p n t ≡ then (lookup n s.1) (λ e. file_of e.time e.node)
file_at_lem d p n t s f = file_is d p n t ∙ then_some (λ (x : Some). then (lookup n x.1) (λ e. file_of e.time e.node)) f

-- and so is the device.
pub device_is : (d : ℕ) (p : List Name) (n : Name) (t : Tree d) → device_at d p n t ≡ read_at as_device n d p t
unfolding device_at
device_is d p n t = refl

-- a directory is neither
pub not_file : (X : Type 0) (k : ℕ) (x : X) → as_file X k (sub x) ≡ none
unfolding file_of
not_file X k x = refl

pub not_device : (X : Type 0) (k : ℕ) (x : X) → as_device X k (sub x) ≡ none
unfolding device_of
not_device X k x = refl

-- The entry of a file, and of a device.
module _ (d : ℕ) (p : List Name) (n : Name) (t : Tree d) (z k : ℕ) (cs : List Cell) where
  pub file_there : file_at d p n t ≡ some (z, k, cs) → (o : Occupied d p n t) × (o.entry.node ≡ file z cs)
  unfolding file_of
  file_there e = let x = read_there as_file n d p t (z, k, cs) (sym (file_is d p n t) ∙ e) in (x.0, at_node x.0.entry.time x.0.entry.node x.1)
    where
      at_node : {X : Type 0} (j : ℕ) (x : Node X) → file_of j x ≡ some (z, k, cs) → x ≡ file z cs
      at_node j (file y ds) h =
          let q : ◌≡◌ {A = ℕ × ℕ × List Cell} (y, j, ds) (z, k, cs) = cc in
          λ i. file (q i).0 (q i).2
      at_node j (device y ds) h = absurd (not_some refl h)
      at_node j (sub x) h = absurd (not_some refl h)

  pub device_there : device_at d p n t ≡ some (z, k, cs) → (o : Occupied d p n t) × (o.entry.node ≡ device z cs)
  unfolding device_of
  device_there e = let x = read_there as_device n d p t (z, k, cs) (sym (device_is d p n t) ∙ e) in (x.0, at_node x.0.entry.time x.0.entry.node x.1)
    where
      at_node : {X : Type 0} (j : ℕ) (x : Node X) → device_of j x ≡ some (z, k, cs) → x ≡ device z cs
      at_node j (file y ds) h = absurd (not_some refl h)
      at_node j (device y ds) h =
          let q : ◌≡◌ {A = ℕ × ℕ × List Cell} (y, j, ds) (z, k, cs) = cc in
          λ i. device (q i).0 (q i).2
      at_node j (sub x) h = absurd (not_some refl h)

-- ---- its blocks

-- What the image shows of the blocks, each a whole one.
pub record CellsShown (B : ℕ) (I : List ℕ) (cs : List Cell) : Type 0 where
  pub shown : ShowsAll B I (cell_pieces cs)
  pub whole : All (Whole B) (cell_pieces cs)

module _ (g : Geo) (I : List ℕ) (d : ℕ) (t : Tree d) (u : ℕ) (l : Laid g I d t u) (p : List Name) (n : Name) (z k : ℕ) (cs : List Cell) where
  node_shown : (o : Occupied d p n t) → (o.entry.node ≡ file z cs) ⊎ (o.entry.node ≡ device z cs) → CellsShown (block_size g) I cs
  unfolding render node_pieces
  node_shown o h =
      let a = part_find g I d p t o.dir (laid_part g I d t u l) o.there in
      let B : ℕ = block_size g in
      let s = (stored_lookup g I (view B o.dir.0) n o.dir.1 o.entry o.held a.stored).shown in
      let b = (good_lookup B (GoodBelow B o.dir.0) n o.dir.1 o.entry a.good o.held).below in
      let five : 5 ≤ B = omega (arith, size_large g) in
      go h s b five
    where
      go : (o.entry.node ≡ file z cs) ⊎ (o.entry.node ≡ device z cs) → ShowsAll (block_size g) I (node_pieces (view (block_size g) o.dir.0) o.entry.node)
          → GoodNode (block_size g) (GoodBelow (block_size g) o.dir.0) o.entry.node → 5 ≤ block_size g → CellsShown (block_size g) I cs
      go (inl e) s b five =
          record {
            shown = subst (λ (x : Node (Below o.dir.0)). ShowsAll (block_size g) I (node_pieces (view (block_size g) o.dir.0) x)) e s;
            whole = whole_cells (block_size g) (omega (arith, five)) cs (subst (λ (x : Node (Below o.dir.0)). GoodNode (block_size g) (GoodBelow (block_size g) o.dir.0) x) e b).cells;
          }
      go (inr e) s b five =
          record {
            shown = subst (λ (x : Node (Below o.dir.0)). ShowsAll (block_size g) I (node_pieces (view (block_size g) o.dir.0) x)) e s;
            whole = whole_cells (block_size g) (omega (arith, five)) cs (subst (λ (x : Node (Below o.dir.0)). GoodNode (block_size g) (GoodBelow (block_size g) o.dir.0) x) e b).cells;
          }

  pub cells_shown : (file_at d p n t ≡ some (z, k, cs)) ⊎ (device_at d p n t ≡ some (z, k, cs)) → CellsShown (block_size g) I cs
  cells_shown (inl e) = let x = file_there d p n t z k cs e in node_shown x.0 (inl x.1)
  cells_shown (inr e) = let x = device_there d p n t z k cs e in node_shown x.0 (inr x.1)

-- Two images that have the same file or device at a path have the same bytes in its blocks.
pub cells_same : (B : ℕ) (I J : List ℕ) (cs : List Cell) → CellsShown B I cs → CellsShown B J cs
    → (b i : ℕ) → 1 ≤ count b (places cs) → i < B → get_or J (B * b + i) 0 ≡ get_or I (B * b + i) 0
cells_same B I J cs old new b i n l =
    shown_near (λ _. ⊥) B I J (cell_pieces cs) (cell_pieces cs) (alike_refl (λ _. ⊥) B (cell_pieces cs)) old.whole old.shown new.shown b i
    (subst (λ (y : List ℕ). 1 ≤ count b y) (sym (ats_cells cs)) n) l (λ y. y)
