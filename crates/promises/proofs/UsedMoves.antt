-- S2, of a write: the used count moves by the blocks that the file's new size needs, less those of its old one.
use mathlib.Core.Path.{◌≡◌, ap, ◌∙◌, subst}
use mathlib.Core.Option.{some}
use mathlib.Core.List.{List, [], ◌∷◌}
use Prim.Native.Nat.{ℕ, zero, suc, ◌+◌, ◌≤◌}
use native.Mathlib.Omega.{arith}
use lib.ListN.{length}
use Rattle.model.specs.Tree.{Name, Cell, Entry, Below, Tree, change, Edit, edit, Some, find}
use Rattle.model.specs.Render.{ats, node_pieces, view, render, blocks}
use Rattle.model.specs.Geometry.{Mount, block_size, geo_at, used_count}
use Rattle.model.specs.Volume.{WellFormed, GoodFile, GoodNode, GoodBelow, max_depth, blocks_for}
use Rattle.model.specs.Calls.{Occupied, free_blocks, file_entry, refiled, rewrite, rewritten, TreeWrites}
use Rattle.model.proofs.Areas.{size_large}
use Rattle.model.proofs.Commit.{cut_length}
use Rattle.model.proofs.Contents.{rewrite-length}
use Rattle.model.proofs.Counts.{cells_long}
use Rattle.model.proofs.Cuts.{cut_here, own_cut}
use Rattle.model.proofs.Full.{good_find, good_lookup}
use Rattle.model.proofs.OneVolume.{used_is}
use Rattle.thm_calls.proofs.Changing.{volume_at}

-- An edit's effect on the number of blocks that are reached,
edit-length : (B d : ℕ) (p : List Name) (k : ℕ → ℕ) (f : Edit) (t : Tree d) (s : Some) → find d p t ≡ some s
    → length (blocks B d (edit d p k f t)) + length (blocks B s.0 s.1)
    ≡ length (blocks B d t) + length (blocks B s.0 (f s.0 s.1))
unfolding find edit
edit-length B zero [] k f t s h =
    let e : (zero, t) ≡ s = cc in
    subst (λ (s : Some). length (blocks B zero (f zero t)) + length (blocks B s.0 s.1)
    ≡ length (blocks B zero t) + length (blocks B s.0 (f s.0 s.1))) e (omega arith)
edit-length B (suc d) [] k f t s h =
    let e : (suc d, t) ≡ s = cc in
    subst (λ (s : Some). length (blocks B (suc d) (f (suc d) t)) + length (blocks B s.0 s.1)
    ≡ length (blocks B (suc d) t) + length (blocks B s.0 (f s.0 s.1))) e (omega arith)
edit-length B d (n ∷ p) k f t s h = cut_length B _ _ _ _ _ _ _ (own_cut B d n p k f t s h).cut

-- and so of a file's renewal: by its own blocks.
module _ (B d : ℕ) (p : List Name) (n : Name) (now s : ℕ) (es : List Cell) (t : Tree d) (o : Occupied d p n t)
    (k z : ℕ) (cs : List Cell) (is : o.entry ≡ file_entry n k z cs) where
  abbrev refile : Entry (Below o.dir.0) → Entry (Below o.dir.0)
  refile x = refiled now s es x.name x.time x.node

  old_length : length (ats (node_pieces (view B o.dir.0) o.entry.node)) ≡ length cs
  unfolding file_entry node_pieces
  old_length =
      ap (λ (e : Entry (Below o.dir.0)). length (ats (node_pieces (view B o.dir.0) e.node))) is ∙ cells_long cs

  new_length : length (ats (node_pieces (view B o.dir.0) (refile o.entry).node)) ≡ length es
  unfolding file_entry node_pieces refiled
  new_length =
      ap (λ (e : Entry (Below o.dir.0)). length (ats (node_pieces (view B o.dir.0) (refile e).node))) is ∙ cells_long es

  dir_length : length (blocks B o.dir.0 (change n refile o.dir.1)) + length cs
      ≡ length (blocks B o.dir.0 o.dir.1) + length es
  unfolding render
  dir_length =
      let c = cut_length B _ _ _ _ _ _ _ (cut_here B (view B o.dir.0) n refile o.dir.1 o.entry o.held) in
      omega (arith, c, old_length, new_length)

  rewritten-length : length (blocks B d (rewritten d p n now s es t)) + length cs ≡ length (blocks B d t) + length es
  unfolding rewritten
  rewritten-length =
      let f : Edit = λ e bs. change n (λ x. refiled now s es x.name x.time x.node) bs in
      let c = edit-length B d p (λ j. j) f t o.dir o.there in
      omega (arith, c, dir_length)

module _ (M : Mount) (I J : List ℕ) (w : WellFormed M I) (p : List Name) (n : Name) (now c : ℕ) (buf : List ℕ)
    (m : TreeWrites (geo_at M I) max_depth p n now c buf w.tree I J) where
  -- the file is a good one
  pub file_good : GoodFile (block_size (geo_at M I)) m.size m.cells
  unfolding file_entry
  file_good =
      let B : ℕ = block_size (geo_at M I) in
      let d = m.occupied.dir in
      let g = good_find B max_depth p w.tree d (volume_at M I w).laid.good m.occupied.there in
      subst (λ (e : Entry (Below d.0)). GoodNode B (GoodBelow B d.0) e.node) m.is_file
      (good_lookup B (GoodBelow B d.0) n d.1 m.occupied.entry g m.occupied.held).below

  pub used_moves : used_count (geo_at M J) J + blocks_for (block_size (geo_at M I)) m.size
      ≡ used_count (geo_at M I) I + blocks_for (block_size (geo_at M I)) (c + length buf)
  unfolding used_count
  used_moves =
      let B : ℕ = block_size (geo_at M I) in
      let free : List ℕ = free_blocks (geo_at M I) max_depth w.tree in
      let five : 5 ≤ B = omega (arith, size_large (geo_at M I)) in
      let l = rewritten-length B max_depth p n now (c + length buf) (rewrite B free c buf m.cells) w.tree m.occupied
      m.time m.size m.cells m.is_file in
      let r = rewrite-length B m.size c free buf m.cells five file_good m.position m.room in
      omega (
        arith,
        l,
        r,
        file_good.long,
        used_is (geo_at M I) I max_depth w.tree (volume_at M I w),
        used_is (geo_at M I) J max_depth _ m.makes.volume,
      )
