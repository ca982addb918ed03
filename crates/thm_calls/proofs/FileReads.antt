-- Reading a file gives the file's bytes, and a handle is held exactly where the tree has its file.
use mathlib.Core.Path.{◌≡◌, refl, sym, ap, ◌∙◌, subst}
use Rattle.handle.proofs.Seeks.{fresh as fields-fresh}
use mathlib.Core.Bool.{true, false}
use mathlib.Core.Logic.{◌⊎◌, inl, inr}
use mathlib.Core.Option.{Option, none, some}
use mathlib.Core.List.{List, [], ◌∷◌, ◌++◌}
use Prim.Native.Nat.{ℕ, zero, suc, ◌+◌, ◌-◌, ◌*◌, ◌/◌, ◌^◌, ◌≤◌, ◌<◌, min}
use native.Mathlib.Nat.{mul-zero, mul-suc, mul_comm, div-lt_iff_lt-mul, lt-mul-div-succ}
use native.Mathlib.Numerals.{add-one}
use native.Mathlib.Omega.{arith}
use lib.ListN.{length, take, drop}
use lib.Seq.{length-take-le, take-nil, take_all, take-take, take-append-add}
use borrow.Author.Tests.{le-leb, le-ltb, eq-eqb, ne_eqb}
use Rattle.wire.specs.Be.{bytes}
use Rattle.wire.specs.Pick.{pick, same}
use Rattle.wire.proofs.Numbers.{length_bytes}
use Rattle.wire.proofs.Picks.{either, pick_true, pick_false, same_refl, both_and}
use Rattle.block.specs.Block.{next}
use Rattle.model.specs.Tree.{Name, Cell, Node, file, device, Entry, Block, Below, Tree, then, first, entries_of, called, lookup, weight, Some, find}
use Rattle.model.specs.Render.{View, cells_at, blocks_at, address_of, size_of, cell_pieces, node_pieces, view, render, Shows}
use Rattle.model.specs.Geometry.{area_of, Geo, block_size, data_at, Sound}
use Rattle.model.specs.Volume.{All, file_limit, blocks_for, named, named_in, GoodCell, GoodNode, GoodFile, GoodBelow, Laid}
use Rattle.model.specs.Calls.{stream, contents, places}
use Rattle.model.proofs.Areas.{few, size_large, block_inside}
use Rattle.model.proofs.Commit.{shows_two}
use Rattle.model.proofs.Contents.{blocks_enough, length-stream, length-places}
use Rattle.model.proofs.Full.{good_lookup, good_find}
use Rattle.model.proofs.Lists.{then_some, first_here, first_there}
use Rattle.model.proofs.OneVolume.{shown_part}
use Rattle.model.proofs.Opens.{false_or, first_of_none, first_of_head, first_of_tail, refuses, passes}
use Rattle.model.proofs.Reached.{lookup_entries, named_entries}
use Rattle.model.proofs.Counts.{cells_long}
use Rattle.model.proofs.Entries.{next_shown}
use Rattle.dir_entry.specs.Entry.{is_file}
use Rattle.dir_entry.specs.Shown.{kind_is, head_of}
use Rattle.read_dir.specs.Walk.{Walk, walk}
use Rattle.handle.specs.declared.Handle.{Handle}
use Rattle.handle.specs.Handles.{name_of, stale_fields, current, held_in}
use Rattle.file_read.specs.Read.{to_read, chain, blocks_read, chain_read, data_of, missing, bytes_of, read_refusal, bytes_read}
use Rattle.handle.proofs.Currents.{own, not_own, own_node}
use Rattle.thm_walk.specs.Shown.{items_of, walk_of}
use Rattle.thm_walk.proofs.Parts.{Stored, Part, laid_part, part_find, stored_tail, stored_in, stored_few, stored_lookup}
use Rattle.thm_walk.proofs.Walks.{in_area_lem, walk_is}
use Rattle.thm_calls.specs.Handles.{HandleOf, held_by}
use Rattle.thm_path.proofs.Resolves.{lookup_name}

-- ---- a chain

module _ (g : Geo) (I : List ℕ) (sound : Sound g (length I)) where
  cells_small : (cs : List Cell) → Stored g I (cell_pieces cs) → cells_at cs < 2 ^ 32
  unfolding cells_at cell_pieces
  cells_small [] s = omega arith
  cells_small (c ∷ cs) s = omega (arith, (stored_in g I _ _ s).1, few g (length I) sound)

  -- The first m blocks of a chain that the image holds.
  chain_cells : (cs : List Cell) (m : ℕ) → m ≤ length cs → Stored g I (cell_pieces cs)
      → chain (area_of g) I m (cells_at cs) ≡ some (take m (places cs))
  unfolding chain cells_at places cell_pieces
  chain_cells [] zero h s = refl
  chain_cells [] (suc m) h s = absurd (omega arith)
  chain_cells (c ∷ cs) zero h s = refl
  chain_cells (c ∷ cs) (suc m) h s =
      let B : ℕ = block_size g in
      let r : Stored g I (cell_pieces cs) = stored_tail g I _ _ s in
      let z : next B I c.at ≡ cells_at cs = next_shown B I c.at (cells_at cs) c.body (cells_small cs r) s.shown.0 in
      pick_true _ _ (in_area_lem (area_of g) I c.at (stored_in g I _ _ s))
      ∙ ap (λ (x : ℕ). then (chain (area_of g) I m x) (λ xs. some (c.at ∷ xs))) z
      ∙ then_some (λ xs. some (c.at ∷ xs)) (chain_cells cs m (omega arith) r)

  -- the data bytes of one of its blocks
  body_is : (c : Cell) (cs : List Cell) → GoodCell (block_size g) c → Stored g I (cell_pieces (c ∷ cs))
      → take (block_size g - 4) (drop (block_size g * c.at + 4) I) ≡ c.body
  unfolding cell_pieces
  body_is c cs w s =
      let B : ℕ = block_size g in
      let r = stored_in g I _ _ s in
      let h : Shows I (B * c.at + 4) c.body
      = subst (λ (j : ℕ). Shows I (B * c.at + j) c.body) (length_bytes 4 (cells_at cs)) (shows_two I (B * c.at) (bytes 4 (cells_at cs)) c.body s.shown.0) in
      ap (λ (j : ℕ). take j (drop (B * c.at + 4) I)) (sym w.whole)
      ∙ shown_part I (B * c.at + 4) c.body (omega (arith, w.whole, block_inside g (length I) sound c.at r.1, size_large g)) h

  -- The data bytes of its first m blocks.
  data_cells : (cs : List Cell) (m : ℕ) → All (GoodCell (block_size g)) cs → Stored g I (cell_pieces cs)
      → data_of (area_of g) I (take m (places cs)) ≡ take ((block_size g - 4) * m) (stream cs)
  unfolding data_of places stream
  data_cells [] m w s = ap (data_of (area_of g) I) (take-nil m) ∙ sym (take-nil ((block_size g - 4) * m))
  data_cells (c ∷ cs) zero w s = sym (ap (λ (j : ℕ). take j (c.body ++ stream cs)) (mul-zero (block_size g - 4)))
  data_cells (c ∷ cs) (suc m) w s =
      let B : ℕ = block_size g in
      let e : (B - 4) * suc m ≡ length c.body + (B - 4) * m = omega (arith, mul-suc (B - 4) m, w.0.whole) in
      ap (λ (l : List ℕ). l ++ data_of (area_of g) I (take m (places cs))) (body_is c cs w.0 s)
      ∙ ap (λ (l : List ℕ). c.body ++ l) (data_cells cs m w.1 (unfold cell_pieces in stored_tail g I _ _ s))
      ∙ sym (ap (λ (j : ℕ). take j (c.body ++ stream cs)) e ∙ take-append-add c.body (stream cs) ((B - 4) * m))

  -- The data bytes of all of it.
  data_all : (cs : List Cell) → All (GoodCell (block_size g)) cs → Stored g I (cell_pieces cs) → data_of (area_of g) I (places cs) ≡ stream cs
  data_all cs w s =
      ap (data_of (area_of g) I) (sym (take_all (length cs) (places cs) (omega (arith, length-places cs))))
      ∙ data_cells cs (length cs) w s
      ∙ take_all ((block_size g - 4) * length cs) (stream cs) (omega (arith, length-stream (block_size g) cs w))

-- ---- the chain of a file or a device of the tree

-- what the image and the tree say of its blocks
pub record Chained (g : Geo) (I : List ℕ) (cs : List Cell) : Type 0 where
  pub stored : Stored g I (cell_pieces cs)
  pub cells : All (GoodCell (block_size g)) cs

module _ (g : Geo) (I : List ℕ) (d : ℕ) (t : Tree d) (u : ℕ) (p : List Name) (s : Some) (n : Name) (e : Entry (Below s.0)) (z : ℕ) (cs : List Cell)
    (l : Laid g I d t u) (f : find d p t ≡ some s) (k : lookup n s.1 ≡ some e) where
  there : Part g I s.0 s.1
  there = part_find g I d p t s (laid_part g I d t u l) f

  node_stored : (x : Node (Below s.0)) → e.node ≡ x → Stored g I (node_pieces (view (block_size g) s.0) x)
  unfolding render
  node_stored x i = subst (λ (y : Node (Below s.0)). Stored g I (node_pieces (view (block_size g) s.0) y)) i (stored_lookup g I (view (block_size g) s.0) n s.1 e k there.stored)

  node_good : (x : Node (Below s.0)) → e.node ≡ x → GoodNode (block_size g) (GoodBelow (block_size g) s.0) x
  node_good x i =
      subst (λ (y : Node (Below s.0)). GoodNode (block_size g) (GoodBelow (block_size g) s.0) y) i
      (good_lookup (block_size g) (GoodBelow (block_size g) s.0) n s.1 e there.good k).below

  chained : (e.node ≡ file z cs) ⊎ (e.node ≡ device z cs) → Chained g I cs
  unfolding node_pieces
  chained (inl i) = record { stored = node_stored (file z cs) i; cells = (node_good (file z cs) i).cells }
  chained (inr i) = record { stored = node_stored (device z cs) i; cells = (node_good (device z cs) i).cells }

  -- The chain from its first address gives its blocks, as many as it has,
  pub chain_is : (e.node ≡ file z cs) ⊎ (e.node ≡ device z cs) → (m : ℕ) → m ≤ length cs
      → chain (area_of g) I m (cells_at cs) ≡ some (take m (places cs))
  chain_is i m h = chain_cells g I l.sound cs m h (chained i).stored

  -- and their data bytes are the tree's.
  pub data_is : (e.node ≡ file z cs) ⊎ (e.node ≡ device z cs) → data_of (area_of g) I (places cs) ≡ stream cs
  data_is i = let c = chained i in data_all g I l.sound cs c.cells c.stored

-- ---- the entry of a handle

module _ {X : Type 0} (v : View X) (h : Handle) where
  -- the answer of a list of entries, k after them
  held : List (Entry X) → ℕ → ℕ
  held [] k = k
  held (e ∷ es) k = pick (own v h e) 0 (held es k)

  held_append : (es fs : List (Entry X)) (k : ℕ) → held (es ++ fs) k ≡ held es (held fs k)
  unfolding held
  held_append [] fs k = refl
  held_append (e ∷ es) fs k = ap (pick (own v h e) 0) (held_append es fs k)

  items_held : (a : ℕ) (es : List (Entry X)) (o : ℕ) (w : Walk) → held_in h (items_of v a o es w) ≡ held es (held_in h w)
  unfolding held items_of held_in
  items_held a [] o w = refl
  items_held a (e ∷ es) o w = ap (pick (own v h e) 0) (items_held a es (o + weight e) w)

  entries_held : (bs : List (Block X)) → held_in h (walk_of v bs) ≡ held (entries_of bs) 11
  unfolding held walk_of held_in entries_of
  entries_held [] = refl
  entries_held (b ∷ bs) = items_held b.at b.entries 0 (walk_of v bs) ∙ ap (held b.entries) (entries_held bs) ∙ sym (held_append b.entries (entries_of bs) 11)

  -- no entry of the handle's name
  held_none : (es : List (Entry X)) → named (name_of h) es ≡ 0 → held es 11 ≡ 11
  unfolding held named
  held_none [] c = refl
  held_none (e ∷ es) c = go (either (called (name_of h) e)) (held_none es)
    where
      go : (called (name_of h) e ≡ true) ⊎ (called (name_of h) e ≡ false) → (named (name_of h) es ≡ 0 → held es 11 ≡ 11) → held (e ∷ es) 11 ≡ 11
      go (inl x) r = absurd (omega (arith, pick_true {A = ℕ} 1 0 x))
      go (inr x) r = pick_false 0 (held es 11) (not_own v h e x) ∙ r (omega arith)

  -- one at most
  held_first : (es : List (Entry X)) → named (name_of h) es ≤ 1 → held es 11 ≡ held_by v h (first (called (name_of h)) es)
  unfolding held named first held_by
  held_first [] c = refl
  held_first (e ∷ es) c = go (either (called (name_of h) e)) (held_first es)
    where
      go : (called (name_of h) e ≡ true) ⊎ (called (name_of h) e ≡ false) → (named (name_of h) es ≤ 1 → held es 11 ≡ held_by v h (first (called (name_of h)) es))
          → held (e ∷ es) 11 ≡ held_by v h (first (called (name_of h)) (e ∷ es))
      go (inl x) r =
          ap (pick (own v h e) 0) (held_none es (omega (arith, pick_true {A = ℕ} 1 0 x))) ∙ sym (ap (held_by v h) (first_here (called (name_of h)) e es x))
      go (inr x) r =
          pick_false 0 (held es 11) (not_own v h e x) ∙ r (omega arith) ∙ sym (ap (held_by v h) (first_there (called (name_of h)) e es x))

  -- The walk of a directory with distinct names holds the handle exactly where the entry of its name does.
  walk_held : (bs : List (Block X)) → ((n : Name) → named_in n bs ≤ 1) → held_in h (walk_of v bs) ≡ held_by v h (lookup (name_of h) bs)
  walk_held bs c =
      entries_held bs ∙ held_first (entries_of bs) (omega (arith, c (name_of h), named_entries (name_of h) bs)) ∙ ap (held_by v h) (sym (lookup_entries (name_of h) bs))

-- A handle of a directory of the volume: 0 where the tree has its file there, else 11.
held_is : (g : Geo) (I : List ℕ) (d : ℕ) (t : Tree d) (u : ℕ) (p : List Name) (s : Some) (h : Handle) → Laid g I d t u → find d p t ≡ some s
    → held_in h (walk (area_of g) I (blocks_at s.1)) ≡ held_by (view (block_size g) s.0) h (lookup (name_of h) s.1)
held_is g I d t u p s h l f =
    ap (held_in h) (walk_is g I d t u p s l f)
    ∙ walk_held (view (block_size g) s.0) h s.1 (good_find (block_size g) d p t s l.good f).distinct

-- ---- reading

window : (k p j : ℕ) (l : List ℕ) → p + k ≤ j → take k (drop p (take j l)) ≡ take k (drop p l)
window k zero j l h = take-take k j l (omega arith)
window k (suc p) j [] h = ap (λ (x : List ℕ). take k (drop (suc p) x)) (take-nil j)
window k (suc p) zero (x ∷ l) h = absurd (omega arith)
window k (suc p) (suc j) (x ∷ l) h = window k p j l (omega arith)

in_size : (p len y z : ℕ) → y ≡ z → p ≤ z → p + min len (y - p) ≤ z
in_size p len y z e h = omega arith

module _ (g : Geo) (I : List ℕ) (sound : Sound g (length I)) (cs : List Cell) (c : Chained g I cs) where
  -- as many blocks as there are may be walked
  chain_read_lem : (m : ℕ) → m ≤ length cs → chain_read (area_of g) I (cells_at cs) m ≡ some (take m (places cs))
  unfolding chain_read
  chain_read_lem m h =
      pick_true _ _ (le-leb m (g.n - data_at g) (omega (arith, cells_long cs, stored_few g I (cell_pieces cs) c.stored)))
      ∙ chain_cells g I sound cs m h c.stored

  -- A read of k bytes at p, all of them in the first z bytes of a chain that has so many.
  read_window : (z p k : ℕ) → p + k ≤ z → z ≤ (block_size g - 4) * length cs
      → (m : ℕ) × (chain_read (area_of g) I (cells_at cs) (blocks_read (area_of g) I p k) ≡ some (take m (places cs)))
      × (take k (drop p (data_of (area_of g) I (take m (places cs)))) ≡ take k (drop p (contents z cs)))
  unfolding blocks_read contents
  read_window z p zero h q = (0, chain_read_lem 0 (omega arith), refl)
  read_window z p (suc k) h q =
      let w : ℕ = block_size g - 4 in
      let pos : 0 < w = omega (arith, size_large g) in
      let m : ℕ = suc ((p + k) / w) in
      let a : (p + k) / w < length cs = (div-lt_iff_lt-mul {k = w} {x = p + k} {y = length cs} pos).1 (omega (arith, mul_comm (length cs) w)) in
      let b : p + suc k ≤ w * m = omega (arith, lt-mul-div-succ (p + k) pos, add-one ((p + k) / w)) in (
        m,
        chain_read_lem m (omega arith),
        ap (λ (l : List ℕ). take (suc k) (drop p l)) (data_cells g I sound cs m c.cells c.stored)
            ∙ window (suc k) p (w * m) (stream cs) b ∙ sym (window (suc k) p z (stream cs) h),
      )

-- ---- a handle of a file of the tree

module _ (g : Geo) (I : List ℕ) (d : ℕ) (t : Tree d) (u : ℕ) (p : List Name) (s : Some) (n : Name) (e : Entry (Below s.0)) (z : ℕ) (cs : List Cell)
    (l : Laid g I d t u) (f : find d p t ≡ some s) (k : lookup n s.1 ≡ some e) (i : e.node ≡ file z cs) (h : Handle) (o : HandleOf (blocks_at s.1) n z cs h) where
  good_file : GoodFile (block_size g) z cs
  good_file = node_good g I d t u p s n e z cs l f k (file z cs) i

  -- its own fields are good
  fresh : stale_fields h ≡ false
  unfolding stale_fields
  fresh =
      let m = (good_lookup (block_size g) (GoodBelow (block_size g) s.0) n s.1 e (good_find (block_size g) d p t s l.good f) k).good_name in
      let j : length n ≡ length e.name = ap length (lookup_name n s.1 e k) in
      false_or (le-ltb h.size h.position (omega (arith, o.position, o.size)))
      (false_or (le-ltb file_limit h.size (omega (arith, o.size, good_file.limit)))
      (false_or (ne_eqb h.len 0 (λ x. omega (arith, o.letters, m.some_bytes))) (le-ltb 255 h.len (omega (arith, o.letters, m.few_bytes)))))

  -- its entry is current
  is_current : current h (head_of (view (block_size g) s.0) e) e.name ≡ true
  unfolding current head_of
  is_current =
      let v : View (Below s.0) = view (block_size g) s.0 in
      let a : is_file (kind_is e.node) ≡ true = ap (λ (x : Node (Below s.0)). is_file (kind_is x)) i in
      let b : same e.name (name_of h) ≡ true = ap (same e.name) (o.name ∙ lookup_name n s.1 e k) ∙ same_refl e.name in
      let q : address_of v e.node ≡ h.addr.0 = ap (address_of v) i ∙ (unfold address_of in sym o.addr) in
      let r : size_of v e.node ≡ h.size = ap (size_of v) i ∙ (unfold size_of in sym o.size) in
      both_and (both_and a b) (both_and (eq-eqb _ _ q) (eq-eqb _ _ r))

  -- so the directory holds the handle
  held_here : held_in h (walk (area_of g) I h.dir.0) ≡ 0
  unfolding held_by
  held_here =
      ap (λ (a : ℕ). held_in h (walk (area_of g) I a)) o.dir
      ∙ held_is g I d t u p s h l f
      ∙ ap (held_by (view (block_size g) s.0) h) (ap (λ (x : Name). lookup x s.1) o.name ∙ k)
      ∙ pick_true 0 11 is_current

  module _ (len : ℕ) where
    -- the blocks of the read, and their bytes
    walked : (m : ℕ) × (chain_read (area_of g) I (cells_at cs) (blocks_read (area_of g) I h.position (to_read h len)) ≡ some (take m (places cs)))
        × (take (to_read h len) (drop h.position (data_of (area_of g) I (take m (places cs)))) ≡ take (to_read h len) (drop h.position (contents z cs)))
    walked =
        let x : z ≤ (block_size g - 4) * blocks_for (block_size g) z = blocks_enough (block_size g) (omega (arith, size_large g)) z in
        read_window g I l.sound cs (chained g I d t u p s n e z cs l f k (inl i)) z h.position (to_read h len)
        (in_size h.position len h.size z o.size o.position) (subst (λ (j : ℕ). z ≤ (block_size g - 4) * j) (sym good_file.long) x)

    on_chain : chain_read (area_of g) I h.addr.0 (blocks_read (area_of g) I h.position (to_read h len)) ≡ some (take walked.0 (places cs))
    on_chain =
        ap (λ (a : ℕ). chain_read (area_of g) I a (blocks_read (area_of g) I h.position (to_read h len))) o.addr ∙ walked.1

    -- A read by a handle of a file of the volume is accepted,
    pub read_accepted : read_refusal (area_of g) I h len ≡ 0
    unfolding read_refusal
    read_accepted =
        passes 11 _ fresh ∙ first_of_tail _ _ held_here ∙ passes 17 [] (ap (missing (area_of g) I) on_chain) ∙ first_of_none

    -- and gives the file's bytes from the position on: as many as are asked for, or as there are.
    pub read_is : bytes_read (area_of g) I h len ≡ take (min len (z - h.position)) (drop h.position (contents z cs))
    unfolding bytes_read
    read_is =
        ap (λ (x : Option (List ℕ)). bytes_of (area_of g) I x h.position (to_read h len)) on_chain ∙ walked.2
        ∙ ap (λ (j : ℕ). take (min len (j - h.position)) (drop h.position (contents z cs))) o.size

-- ---- any handle of a directory of the volume

module _ {X : Type 0} (v : View X) (h : Handle) where
  -- The entry of the handle's name is the handle's file, or 11 is the answer.
  held_or : (bs : List (Block X))
      → ((e : Entry X) × (cs : List Cell) × (lookup (name_of h) bs ≡ some e) × (e.node ≡ file h.size cs) × (h.addr.0 ≡ cells_at cs)) ⊎ (held_by v h (lookup (name_of h) bs) ≡ 11)
  unfolding held_by
  held_or bs = go (lookup (name_of h) bs) refl
    where
      go : (r : Option (Entry X)) → lookup (name_of h) bs ≡ r
          → ((e : Entry X) × (cs : List Cell) × (lookup (name_of h) bs ≡ some e) × (e.node ≡ file h.size cs) × (h.addr.0 ≡ cells_at cs)) ⊎ (held_by v h (lookup (name_of h) bs) ≡ 11)
      go none q = inr (ap (held_by v h) q)
      go (some e) q = by (either (current h (head_of v e) e.name))
        where
          by : (current h (head_of v e) e.name ≡ true) ⊎ (current h (head_of v e) e.name ≡ false)
              → ((e : Entry X) × (cs : List Cell) × (lookup (name_of h) bs ≡ some e) × (e.node ≡ file h.size cs) × (h.addr.0 ≡ cells_at cs)) ⊎ (held_by v h (lookup (name_of h) bs) ≡ 11)
          by (inl c) = let f = own_node v h e.name e.node (unfold current head_of in c) in inl (e, f.0, q, f.1, sym f.2)
          by (inr c) = inr (ap (held_by v h) q ∙ pick_false 0 11 c)

-- A directory of the tree has a file that the handle is one of.
abbrev pub FileThere : Some → Handle → Type 0
FileThere s h =
    (e : Entry (Below s.0)) × (cs : List Cell) × (lookup (name_of h) s.1 ≡ some e) × (e.node ≡ file h.size cs) × HandleOf (blocks_at s.1) (name_of h) h.size cs h

module _ (g : Geo) (I : List ℕ) (d : ℕ) (t : Tree d) (u : ℕ) (p : List Name) (s : Some) (h : Handle) (l : Laid g I d t u) (f : find d p t ≡ some s)
    (long : length h.name ≡ 255) (in_dir_lem : h.dir.0 ≡ blocks_at s.1) where
  -- A handle whose directory is one of the volume's is a handle of a file there, or stale: then every read gives 11.
  pub handle_or : FileThere s h ⊎ ((len : ℕ) → read_refusal (area_of g) I h len ≡ 11)
  unfolding read_refusal
  handle_or = go (either (stale_fields h)) (held_or (view (block_size g) s.0) h s.1)
    where
      go : (stale_fields h ≡ true) ⊎ (stale_fields h ≡ false)
          → ((e : Entry (Below s.0)) × (cs : List Cell) × (lookup (name_of h) s.1 ≡ some e) × (e.node ≡ file h.size cs) × (h.addr.0 ≡ cells_at cs))
          ⊎ (held_by (view (block_size g) s.0) h (lookup (name_of h) s.1) ≡ 11)
          → FileThere s h ⊎ ((len : ℕ) → read_refusal (area_of g) I h len ≡ 11)
      go (inl a) b = inr (λ len. refuses 11 _ (omega arith) a)
      go (inr a) (inr b) =
          inr (λ len.
          let k : held_in h (walk (area_of g) I h.dir.0) ≡ 11
          = ap (λ (x : ℕ). held_in h (walk (area_of g) I x)) in_dir_lem ∙ held_is g I d t u p s h l f ∙ b in
          passes 11 _ a ∙ first_of_head _ _ (omega arith) ∙ k)
      go (inr a) (inl b) =
          let c = fields-fresh h a in
          inl (
            b.0,
            b.1,
            b.2,
            b.3,
            record { dir = in_dir_lem; name = refl; letters = sym (length-take-le h.len h.name (omega arith)); addr = b.4; size = refl; position = c.place },
          )
