-- What an image holds of a part of the tree: its pieces, in blocks of the data area, and from there what entries and chains show.
use mathlib.Core.Path.{◌≡◌, refl, subst}
use mathlib.Core.Option.{some}
use mathlib.Core.List.{List, [], ◌∷◌, ◌++◌}
use Prim.Native.Nat.{ℕ, zero, suc, ◌-◌, ◌^◌, ◌≤◌, ◌<◌}
use native.Mathlib.Nat.{mul_comm}
use native.Mathlib.Omega.{arith}
use lib.ListN.{length}
use Rattle.block.specs.Block.{next}
use Rattle.model.specs.Tree.{Name, Cell, Node, file, device, sub, Entry, Block, Below, Tree, lookup, sum, Some, find, Packed}
use Rattle.model.specs.Render.{Piece, View, cells_at, blocks_at, address_of, size_of, cell_pieces, node_pieces, entry_pieces, dir_pieces, view, render, ats, count, Shows, ShowsAll, padded, entries_bytes}
use Rattle.model.specs.Geometry.{Geo, block_size, data_at, Sound}
use Rattle.model.specs.Volume.{All, GoodNode, GoodEntry, GoodBlock, GoodBelow, GoodTree, Laid}
use Rattle.model.proofs.Areas.{area, few, size_large}
use Rattle.model.proofs.Contents.{blocks-some}
use Rattle.model.proofs.Counts.{ats-append, count_append, count_same}
use Rattle.model.proofs.Cuts.{site, dir_split, entries_split, up_to, found, sub_of_lem}
use Rattle.model.proofs.Entries.{next_shown}
use Rattle.model.proofs.Frame.{shows_left, shows_right}
use Rattle.model.proofs.Full.{good_lookup}
use Rattle.model.proofs.Lists.{not_some}
use Rattle.model.proofs.Sums.{row, sum-blocks}
use Rattle.dir_entry.specs.Entry.{place_at}
use Rattle.dir_entry.proofs.Shown.{Legible, data_shown}
use Rattle.read_dir.proofs.Sizes.{bytes_fit}

-- ---- pieces

-- The image shows these pieces, in blocks of the data area, no block twice.
pub record Stored (g : Geo) (I : List ℕ) (xs : List Piece) : Type 0 where
  pub shown : ShowsAll (block_size g) I xs
  pub once : (i : ℕ) → count i (ats xs) ≤ 1
  pub range : (i : ℕ) → 1 ≤ count i (ats xs) → (data_at g ≤ i) × (i < g.n)

module _ (g : Geo) (I : List ℕ) where
  pub stored_left : (xs ys : List Piece) → Stored g I (xs ++ ys) → Stored g I xs
  stored_left xs ys s = record {
    shown = shows_left (block_size g) I xs ys s.shown;
    once = λ i. omega (arith, rw (ats-append, count_append) at (s.once i));
    range = λ i h. s.range i (rw (ats-append, count_append) (omega arith));
  }

  pub stored_right : (xs ys : List Piece) → Stored g I (xs ++ ys) → Stored g I ys
  stored_right xs ys s = record {
    shown = shows_right (block_size g) I xs ys s.shown;
    once = λ i. omega (arith, rw (ats-append, count_append) at (s.once i));
    range = λ i h. s.range i (rw (ats-append, count_append) (omega arith));
  }

  pub stored_tail : (x : Piece) (xs : List Piece) → Stored g I (x ∷ xs) → Stored g I xs
  stored_tail x xs s = stored_right (x ∷ []) xs s

  -- a piece's block is in the data area
  pub stored_in : (x : Piece) (xs : List Piece) → Stored g I (x ∷ xs) → (data_at g ≤ x.at) × (x.at < g.n)
  unfolding ats
  stored_in x xs s = s.range x.at (omega (arith, count_same x.at x.at (ats xs) refl))

  -- there are no more of them than the data area has blocks
  pub stored_few : (xs : List Piece) → Stored g I xs → length (ats xs) ≤ g.n - data_at g
  stored_few xs s =
      row (g.n - data_at g) (data_at g) (ats xs) s.once (λ i h. let r = s.range i h in (omega arith, omega arith))

-- ---- a part of the tree

-- The image holds a directory of d levels, with all below it.
pub record Part (g : Geo) (I : List ℕ) (d : ℕ) (t : Tree d) : Type 0 where
  pub sound : Sound g (length I)
  pub stored : Stored g I (render (block_size g) d t)
  pub good : GoodTree (block_size g) d t

-- So does an image with the whole tree.
pub laid_part : (g : Geo) (I : List ℕ) (d : ℕ) (t : Tree d) (u : ℕ) → Laid g I d t u → Part g I d t
laid_part g I d t u l = record { sound = l.sound; stored = record { shown = l.shown; once = l.once; range = l.range }; good = l.good }

-- The pieces of an entry that a name gives.
pub stored_lookup : {X : Type 0} (g : Geo) (I : List ℕ) (v : View X) (n : Name) (bs : List (Block X)) (e : Entry X) → lookup n bs ≡ some e
    → Stored g I (dir_pieces (block_size g) v bs) → Stored g I (node_pieces v e.node)
unfolding dir_pieces
stored_lookup g I v n bs e l s =
    let B : ℕ = block_size g in
    let p = site B n (λ x. x) bs e l in
    let a : Stored g I (dir_pieces B v (p.earlier ++ (record { at = p.at; entries = p.left ++ (e ∷ p.right) } ∷ p.later))) = subst (λ (z : List (Block _)). Stored g I (dir_pieces B v z)) p.is s in
    let b = stored_right g I (up_to B v p.at p.earlier) _ (subst (Stored g I) (dir_split B v p.earlier _ p.later) a) in
    let c = stored_left g I (entry_pieces v (p.left ++ (e ∷ p.right))) (dir_pieces B v p.later) (stored_tail g I _ _ b) in
    stored_left g I (node_pieces v e.node) (entry_pieces v p.right)
    (stored_right g I (entry_pieces v p.left) _ (subst (Stored g I) (entries_split B v p.left e p.right) c))

-- A subdirectory that a name gives,
pub part_sub : (g : Geo) (I : List ℕ) (d : ℕ) (t : Tree (suc d)) (n : Name) (e : Entry (Tree d)) (x : Tree d) → Part g I (suc d) t → lookup n t ≡ some e → e.node ≡ sub x → Part g I d x
unfolding render view node_pieces GoodBelow
part_sub g I d t n e x p l k =
    record {
      sound = p.sound;
      stored = subst (λ (z : Node (Tree d)). Stored g I (node_pieces (view (block_size g) (suc d)) z)) k (stored_lookup g I (view (block_size g) (suc d)) n t e l p.stored);
      good = subst (λ (z : Node (Tree d)). GoodNode (block_size g) (GoodBelow (block_size g) (suc d)) z) k (good_lookup (block_size g) (GoodBelow (block_size g) (suc d)) n t e p.good l).below;
    }

-- and the directory at a path.
pub part_find : (g : Geo) (I : List ℕ) (d : ℕ) (p : List Name) (t : Tree d) (s : Some) → Part g I d t → find d p t ≡ some s → Part g I s.0 s.1
unfolding find
part_find g I zero [] t s a f = let k : (zero, t) ≡ s = cc in subst (λ (z : Some). Part g I z.0 z.1) k a
part_find g I (suc d) [] t s a f = let k : (suc d, t) ≡ s = cc in subst (λ (z : Some). Part g I z.0 z.1) k a
part_find g I zero (n ∷ p) t s a f = absurd (not_some refl f)
part_find g I (suc d) (n ∷ p) t s a f =
    let z = found d n p t s f in
    let y = sub_of_lem d (find d p) s z.0.node z.2 in
    part_find g I d p y.0 s (part_sub g I d t n z.0 y.0 a z.1 y.1) y.2

-- ---- chains

module _ (g : Geo) (I : List ℕ) where
  -- a chain with a block begins in the data area
  cells_in : (cs : List Cell) → 1 ≤ length cs → Stored g I (cell_pieces cs) → (data_at g ≤ cells_at cs) × (cells_at cs < g.n)
  unfolding cell_pieces cells_at
  cells_in [] h s = absurd (omega arith)
  cells_in (c ∷ cs) h s = stored_in g I _ _ s

  blocks_in : {X : Type 0} (v : View X) (bs : List (Block X)) → Packed bs → Stored g I (dir_pieces (block_size g) v bs) → (data_at g ≤ blocks_at bs) × (blocks_at bs < g.n)
  unfolding dir_pieces blocks_at
  blocks_in v [] h s = absurd h
  blocks_in v (b ∷ bs) h s = stored_in g I _ _ s

-- ---- the numbers that an entry shows fit their fields

module _ (g : Geo) (I : List ℕ) (sound : Sound g (length I)) where
  in_field : (a : ℕ) → (data_at g ≤ a) × (a < g.n) → (1 ≤ a) × (a < 2 ^ 32)
  in_field a h = let r = area g (length I) sound in (omega (arith, r.maps, h.0), omega (arith, h.1, few g (length I) sound))

  sum_small : {X : Type 0} (S : X → Type 0) (v : View X) (bs : List (Block X)) → All (GoodBlock (block_size g) S) bs → Stored g I (dir_pieces (block_size g) v bs) → sum bs < 2 ^ 32
  sum_small S v bs a s =
      let B : ℕ = block_size g in
      let k : ℕ = length (ats (dir_pieces B v bs)) in
      omega (
        arith,
        sum-blocks B S v bs a,
        bytes_fit B k g.n (omega (arith, stored_few g I (dir_pieces B v bs) s)) (omega (arith, sound.inside_image, sound.limit, mul_comm g.n B)),
      )

  sub_legible : (d : ℕ) (x : Below d) → GoodBelow (block_size g) d x → Stored g I ((view (block_size g) d).pieces x)
      → (1 ≤ (view (block_size g) d).from x) × ((view (block_size g) d).from x < 2 ^ 32) × ((view (block_size g) d).size x < 2 ^ 32)
  unfolding view GoodBelow
  sub_legible zero x a s = absurd x
  sub_legible (suc d) x a s =
      let B : ℕ = block_size g in
      let r = in_field (blocks_at x) (blocks_in g I (view B d) x a.packed s) in
      (r.0, r.1, sum_small (GoodBelow B d) (view B d) x a.all s)

  node_legible : (d : ℕ) (x : Node (Below d)) → GoodNode (block_size g) (GoodBelow (block_size g) d) x → Stored g I (node_pieces (view (block_size g) d) x)
      → (1 ≤ address_of (view (block_size g) d) x) × (address_of (view (block_size g) d) x < 2 ^ 32) × (size_of (view (block_size g) d) x < 2 ^ 32)
  unfolding node_pieces address_of size_of
  node_legible d (file z cs) a s =
      let r = in_field (cells_at cs) (cells_in g I cs (omega (arith, a.long, blocks-some (block_size g) (omega (arith, size_large g)) z)) s) in
      (r.0, r.1, omega (arith, a.limit))
  node_legible d (device z cs) a s = let r = in_field (cells_at cs) (cells_in g I cs a.some_block s) in (r.0, r.1, a.limit)
  node_legible d (sub x) a s = sub_legible d x a s

  -- Every entry of a directory that the image holds is legible.
  pub entries_legible : (d : ℕ) (es : List (Entry (Below d))) → All (GoodEntry (block_size g) (GoodBelow (block_size g) d)) es
      → Stored g I (entry_pieces (view (block_size g) d) es) → All (Legible (view (block_size g) d)) es
  unfolding entry_pieces
  entries_legible d [] a s = tt
  entries_legible d (e ∷ es) a s =
      let v = view (block_size g) d in
      let r = node_legible d e.node a.0.below (stored_left g I (node_pieces v e.node) (entry_pieces v es) s) in (
        record { good_name = a.0.good_name; some_address = r.0; address = r.1; size = r.2; time = a.0.clock },
        entries_legible d es a.1 (stored_right g I (node_pieces v e.node) (entry_pieces v es) s),
      )

-- ---- the chain of a directory

module _ {X : Type 0} (g : Geo) (I : List ℕ) (v : View X) where
  -- a block's own address is in the data area
  pub block_data : (b : Block X) (bs : List (Block X)) → Stored g I (dir_pieces (block_size g) v (b ∷ bs)) → (data_at g ≤ b.at) × (b.at < g.n)
  unfolding dir_pieces
  block_data b bs s = stored_in g I _ _ s

  -- the blocks after the first
  pub chain-after : (b : Block X) (bs : List (Block X)) → Stored g I (dir_pieces (block_size g) v (b ∷ bs)) → Stored g I (dir_pieces (block_size g) v bs)
  unfolding dir_pieces
  chain-after b bs s = stored_right g I (entry_pieces v b.entries) (dir_pieces (block_size g) v bs) (stored_tail g I _ _ s)

  -- and what the entries of the first stand for
  pub below_stored : (b : Block X) (bs : List (Block X)) → Stored g I (dir_pieces (block_size g) v (b ∷ bs)) → Stored g I (entry_pieces v b.entries)
  unfolding dir_pieces
  below_stored b bs s = stored_left g I (entry_pieces v b.entries) (dir_pieces (block_size g) v bs) (stored_tail g I _ _ s)

  -- a next address fits its field, and is the one that is read
  pub next_small : Sound g (length I) → (bs : List (Block X)) → Stored g I (dir_pieces (block_size g) v bs) → blocks_at bs < 2 ^ 32
  unfolding blocks_at dir_pieces
  next_small sound [] s = omega arith
  next_small sound (c ∷ bs) s = omega (arith, (stored_in g I _ _ s).1, few g (length I) sound)

  pub block_next : Sound g (length I) → (b : Block X) (bs : List (Block X)) → Stored g I (dir_pieces (block_size g) v (b ∷ bs)) → next (block_size g) I b.at ≡ blocks_at bs
  unfolding dir_pieces
  block_next sound b bs s = next_shown (block_size g) I b.at (blocks_at bs) _ (next_small sound bs (unfold dir_pieces in chain-after b bs s)) s.shown.0

  -- the data of a block
  pub block_shown : (b : Block X) (bs : List (Block X)) → Stored g I (dir_pieces (block_size g) v (b ∷ bs)) → Shows I (place_at (block_size g) b.at 0) (padded (block_size g - 4 - 0) (entries_bytes v b.entries))
  unfolding dir_pieces
  block_shown b bs s = data_shown (block_size g) I v b.at (blocks_at bs) b.entries s.shown.0
