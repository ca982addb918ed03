-- S13: no byte of a deleted file, or of the blocks that a write cuts off, is left in a block that it had.
use mathlib.Core.Path.{◌≡◌, sym, ap, ◌∙◌, subst}
use mathlib.Core.Logic.{◌⊎◌, inl, inr}
use mathlib.Core.Option.{Option, some}
use mathlib.Core.List.{List, ◌++◌}
use Prim.Native.Nat.{ℕ, ◌+◌, ◌≤◌, ◌<◌}
use native.Mathlib.Decide.{dec_lt}
use native.Mathlib.Omega.{arith}
use lib.ListN.{length, take, drop, length-drop, take-append-drop}
use lib.Seq.{take-append-le}
use Rattle.model.specs.Tree.{Name, Cell, Node, file, device, Entry, Below, Tree, change, delete, Edit, Bare}
use Rattle.model.specs.Render.{View, node_pieces, view, render, ats, blocks, count, Wiped}
use Rattle.model.specs.Geometry.{Mount, block_size, geo_at}
use Rattle.model.specs.Volume.{WellFormed, max_depth, blocks_for}
use Rattle.model.specs.Calls.{Occupied, DirAt, file_at, free_blocks, file_entry, deleted, places, refiled, rewrite, rewritten, Makes, TreeWrites}
use Rattle.model.proofs.Areas.{size_large}
use Rattle.model.proofs.Contents.{rewrite-places}
use Rattle.model.proofs.Counts.{ats_cells, count_append, count_none}
use Rattle.model.proofs.Cuts.{cut_here}
use Rattle.model.proofs.Frame.{cut_count, cut_within, blocks-edit}
use Rattle.model.proofs.Lists.{length_none}
use Rattle.model.proofs.Paths.{laid_path}
use Rattle.own_entry.proofs.Renews.{sub-blocks}
use Rattle.delete_store.proofs.Removes.{gone_counts}
use Rattle.handle.specs.declared.Handle.{Handle}
use Rattle.handle.specs.Handles.{name_of}
use Rattle.thm_calls.proofs.Changing.{volume_at, tree_after, delete_tree, write_tree}
use Rattle.promises.specs.Counter.{device_at}
use Rattle.promises.specs.Work.{FileOf}
use Rattle.promises.specs.Wiped.{FreedIsWiped}
use Rattle.limits.proofs.Said.{said_ok}
use Rattle.promises.proofs.Done.{file_of_lem}
use Rattle.promises.proofs.Files.{file_there, device_there}
use Rattle.promises.proofs.UsedMoves.{file_good}

-- ---- delete

module _ (M : Mount) (I J : List ℕ) (w : WellFormed M I) (p : List Name) (n : Name) (now : ℕ)
    (m : Makes (geo_at M I) max_depth w.tree (deleted max_depth p n now w.tree) I J) where
  -- the blocks of what is at the path
  node_wiped : (o : Occupied max_depth p n w.tree) → Bare o.dir.0 o.entry.node
      → (b : ℕ) → 1 ≤ count b (ats (node_pieces (view (block_size (geo_at M I)) o.dir.0) o.entry.node))
      → Wiped (block_size (geo_at M I)) J b
  unfolding deleted
  node_wiped o bare b h =
      let B : ℕ = block_size (geo_at M I) in
      let v = volume_at M I w in
      let c = gone_counts (geo_at M I) I max_depth w.tree v p n o.dir o.there o.entry o.held bare b in
      let e = blocks-edit B max_depth p (λ _. now) (λ e bs. delete n bs) w.tree o.dir o.there b in
      let s = sub-blocks B max_depth p w.tree o.dir o.there b in
      m.wiped b (omega (arith, h, c, s)) (omega (arith, h, c, e, v.laid.once b))

  file_spots : {X : Type 0} (v : View X) (z : ℕ) (cs : List Cell) (x : Node X) → x ≡ file z cs → ats (node_pieces v x) ≡ places cs
  unfolding node_pieces
  file_spots {X} v z cs x e = ap (λ (y : Node X). ats (node_pieces v y)) e ∙ ats_cells cs

  device_spots : {X : Type 0} (v : View X) (z : ℕ) (cs : List Cell) (x : Node X) → x ≡ device z cs
      → ats (node_pieces v x) ≡ places cs
  unfolding node_pieces
  device_spots {X} v z cs x e = ap (λ (y : Node X). ats (node_pieces v y)) e ∙ ats_cells cs

  cells_wiped : (z k : ℕ) (cs : List Cell) → (file_at max_depth p n w.tree ≡ some (z, k, cs))
      ⊎ (device_at max_depth p n w.tree ≡ some (z, k, cs))
      → (b : ℕ) → 1 ≤ count b (places cs) → Wiped (block_size (geo_at M I)) J b
  cells_wiped z k cs (inl e) b h =
      let x = file_there max_depth p n w.tree z k cs e in
      node_wiped x.0 (subst (Bare x.0.dir.0) (sym x.1) tt) b
      (subst (λ (l : List ℕ). 1 ≤ count b l) (sym
      (file_spots (view (block_size (geo_at M I)) x.0.dir.0) z cs x.0.entry.node x.1)) h)
  cells_wiped z k cs (inr e) b h =
      let x = device_there max_depth p n w.tree z k cs e in
      node_wiped x.0 (subst (Bare x.0.dir.0) (sym x.1) tt) b
      (subst (λ (l : List ℕ). 1 ≤ count b l) (sym
      (device_spots (view (block_size (geo_at M I)) x.0.dir.0) z cs x.0.entry.node x.1)) h)

-- ---- write

-- how often a block is reached once a file has other blocks
module _ (B d : ℕ) (p : List Name) (n : Name) (now s : ℕ) (es : List Cell) (t : Tree d) (o : Occupied d p n t)
    (k z : ℕ) (cs : List Cell) (is : o.entry ≡ file_entry n k z cs) (i : ℕ) where
  abbrev refile : Entry (Below o.dir.0) → Entry (Below o.dir.0)
  refile x = refiled now s es x.name x.time x.node

  old_spots : ats (node_pieces (view B o.dir.0) o.entry.node) ≡ places cs
  unfolding file_entry node_pieces
  old_spots = ap (λ (e : Entry (Below o.dir.0)). ats (node_pieces (view B o.dir.0) e.node)) is ∙ ats_cells cs

  new_spots : ats (node_pieces (view B o.dir.0) (refile o.entry).node) ≡ places es
  unfolding file_entry node_pieces refiled
  new_spots = ap (λ (e : Entry (Below o.dir.0)). ats (node_pieces (view B o.dir.0) (refile e).node)) is ∙ ats_cells es

  dir_count : (count i (blocks B o.dir.0 (change n refile o.dir.1)) + count i (places cs) ≡ count i
      (blocks B o.dir.0 o.dir.1) + count i (places es))
      × (count i (places cs) ≤ count i (blocks B o.dir.0 o.dir.1))
  unfolding render
  dir_count =
      let c = cut_here B (view B o.dir.0) n refile o.dir.1 o.entry o.held in (
        omega (arith, cut_count B _ _ _ _ _ _ _ c i, ap (count i) old_spots, ap (count i) new_spots),
        omega (arith, cut_within B _ _ _ _ _ _ _ c i, ap (count i) old_spots),
      )

  rewritten_count : (count i (blocks B d (rewritten d p n now s es t)) + count i (places cs) ≡ count i (blocks B d t) + count i
      (places es))
      × (count i (places cs) ≤ count i (blocks B d t))
  unfolding rewritten
  rewritten_count =
      let f : Edit = λ e bs. change n (λ x. refiled now s es x.name x.time x.node) bs in
      let c = blocks-edit B d p (λ j. j) f t o.dir o.there i in (
        omega (arith, c, dir_count.0),
        omega (arith, dir_count.1, sub-blocks B d p t o.dir o.there i),
      )

-- what stands behind the first k of a list that has nothing twice is none of them
behind : (b k : ℕ) (xs ys : List ℕ) → count b xs ≤ 1 → 1 ≤ count b (drop k xs) → count b (take k (xs ++ ys)) ≡ 0
behind b k xs ys o h = go (dec_lt k (length xs))
  where
    both : count b (take k xs) + count b (drop k xs) ≡ count b xs
    both = sym (count_append b (take k xs) (drop k xs)) ∙ ap (count b) (take-append-drop k xs)

    go : Dec (k < length xs) → count b (take k (xs ++ ys)) ≡ 0
    go (yes l) = ap (count b) (take-append-le k xs ys (omega arith)) ∙ omega (arith, both)
    go (no l) = absurd (omega (arith, h, none (drop k xs) (omega (arith, length-drop k xs))))
      where
        none : (zs : List ℕ) → length zs ≡ 0 → count b zs ≡ 0
        none zs e = ap (count b) (length_none zs e) ∙ count_none b

module _ (M : Mount) (I J : List ℕ) (w : WellFormed M I) (p : List Name) (n : Name) (now c : ℕ) (buf : List ℕ)
    (m : TreeWrites (geo_at M I) max_depth p n now c buf w.tree I J) where
  tail_wiped : (b : ℕ) → 1 ≤ count b (drop (blocks_for (block_size (geo_at M I)) (c + length buf)) (places m.cells))
      → Wiped (block_size (geo_at M I)) J b
  tail_wiped b h =
      let B : ℕ = block_size (geo_at M I) in
      let new : ℕ = blocks_for B (c + length buf) in
      let free : List ℕ = free_blocks (geo_at M I) max_depth w.tree in
      let v = volume_at M I w in
      let x = rewritten_count B max_depth p n now (c + length buf) (rewrite B free c buf m.cells) w.tree m.occupied
      m.time m.size m.cells m.is_file b in
      let y = rewrite-places B m.size c free buf m.cells (omega (arith, size_large (geo_at M I)))
      (file_good M I J w p n now c buf m) m.position m.room in
      let once : count b (places m.cells) ≤ 1 = omega (arith, x.1, v.laid.once b) in
      let all : count b (take new (places m.cells)) + count b (drop new (places m.cells)) ≡ count b (places m.cells)
      = sym (count_append b (take new (places m.cells)) (drop new (places m.cells)))
      ∙ ap (count b) (take-append-drop new (places m.cells)) in
      let none : count b (places (rewrite B free c buf m.cells)) ≡ 0 = ap (count b) y
      ∙ behind b new (places m.cells) free once h in
      m.makes.wiped b (omega (arith, h, all, x.1)) (omega (arith, h, all, x.0, none, v.laid.once b))

-- a handle's file is one
cells_one : (o : Option (ℕ × ℕ × List Cell)) (s k s' k' : ℕ) (cs cs' : List Cell) → o ≡ some (s, k, cs) → o ≡ some (s', k', cs')
    → cs' ≡ cs
cells_one o s k s' k' cs cs' a b =
    let e : ◌≡◌ {A = ℕ × ℕ × List Cell} (s', k', cs') (s, k, cs) = cc in
    ap (λ (z : ℕ × ℕ × List Cell). z.2) e

module _ (M : Mount) (I J : List ℕ) (w : WellFormed M I) (h : Handle) (now : ℕ) (buf : List ℕ) (f : FileOf h w.tree) where
  cut_wiped : (q : List Name) (d : DirAt max_depth h.dir.0 q w.tree)
      → TreeWrites (geo_at M I) max_depth q (name_of h) now h.position buf w.tree I J
      → (b : ℕ) → 1 ≤ count b (drop (blocks_for (block_size (geo_at M I)) (h.position + length buf)) (places f.cells))
      → Wiped (block_size (geo_at M I)) J b
  cut_wiped q d m b x =
      let e : q ≡ f.path
      = laid_path (geo_at M I) I max_depth w.tree _ q f.path d.dir f.there.dir (volume_at M I w).laid d.there
      f.there.there (d.starts ∙ sym f.there.starts) in
      let a = ap (λ (r : List Name). file_at max_depth r (name_of h) w.tree) (sym e)
      ∙ file_of_lem (geo_at M I) q (name_of h) now h.position buf w.tree I J m in
      let c : f.cells ≡ m.cells = cells_one (file_at max_depth f.path (name_of h) w.tree) m.size m.time f.size
      f.time m.cells f.cells a f.file in
      tail_wiped M I J w q (name_of h) now h.position buf m b
      (subst (λ (cs : List Cell). 1 ≤ count b (drop (blocks_for (block_size (geo_at M I)) (h.position + length buf))
      (places cs))) c x)

-- S13.
pub freed_is_wiped : FreedIsWiped
freed_is_wiped =
    record {
      delete = λ M I W cwd p now r J Z c e clock w z k cs f b x.
          cells_wiped M I J w _ _ now (delete_tree M I W cwd p now J Z r c w clock (said_ok r tt e)).makes z k cs f b (omega (arith, x));
      delete_all = λ M I W cwd p now r J Z c e clock w v b x y.
          let m = delete_tree M I W cwd p now J Z r c w clock (said_ok r tt e) in
          m.makes.wiped b x (ap (λ (t : Tree max_depth). count b (blocks (block_size (geo_at M I)) max_depth t))
          (sym (tree_after M I J w _ _ m.makes v)) ∙ omega (arith, y));
      write = λ M I W h buf now o J Z c k e clock w f b x.
          let m = write_tree M I W h buf now o J Z c k w clock (said_ok o.answer k e) in
          cut_wiped M I J w h now buf f m.0 m.1 m.2 b (omega (arith, x));
    }
