-- On a laid-out volume the bytes' function is the tree's: a directory is reached exactly where a path leads to it.
use mathlib.Core.Path.{◌≡◌, refl, sym, ap, ◌∙◌}
use mathlib.Core.Bool.{Bool, true, false}
use mathlib.Core.Option.{Option, none, some}
use mathlib.Core.List.{List, [], ◌∷◌, ◌++◌}
use Prim.Native.Nat.{ℕ, zero, suc, ◌+◌}
use lib.Dec.{eqb}
use lib.ListN.{length}
use Rattle.wire.specs.Pick.{pick}
use Rattle.wire.proofs.Picks.{not_both}
use Rattle.block.specs.Block.{Area}
use Rattle.model.specs.Tree.{Name, Node, file, device, sub, Entry, Below, Tree, then, or_else, entries_of, weight, inside}
use Rattle.model.specs.Render.{blocks_at, address_of, node_pieces, entry_pieces, dir_pieces, view, render}
use Rattle.model.specs.Geometry.{area_of, Geo, block_size, data_at, Sound}
use Rattle.model.specs.Volume.{All, GoodNode, GoodEntry, GoodBlock, GoodBelow, Laid, max_depth}
use Rattle.model.specs.Calls.{DirAt, among, path_to}
use Rattle.model.proofs.Reached.{path_found, path_is}
use Rattle.super_block.specs.declared.SuperBlock.{SuperBlock}
use Rattle.super_block.specs.Super.{area_in, geo_of, Fit}
use Rattle.super_block.proofs.Fits.{area_is}
use Rattle.dir_entry.specs.Shown.{kind_is, head_of}
use Rattle.read_dir.specs.Walk.{Walk}
use Rattle.thm_walk.specs.Shown.{items_of, walk_of}
use Rattle.thm_walk.proofs.Parts.{Stored, Part, laid_part, stored_left, stored_right, stored_tail}
use Rattle.thm_walk.proofs.Walks.{part_walk}
use Rattle.reached.specs.Reach.{if_dir, on_dir, any_in, reaches, has_path, OnlyPath}

-- ---- is there a path

path_last : (b : Bool) → b ≡ has_path (pick b (some []) none)
unfolding pick
path_last true = refl
path_last false = refl

path_more : (b : Bool) (o : Option (List Name)) → pick b true (has_path o) ≡ has_path (pick b (some []) o)
unfolding pick
path_more true o = refl
path_more false o = refl

-- through an entry, or through those after it
path_entry : (n : Name) (x y : Option (List Name)) → pick (has_path x) true (has_path y) ≡ has_path (or_else (then x (λ p. some (n ∷ p))) y)
unfolding pick or_else then
path_entry n none y = refl
path_entry n (some p) y = refl

-- ---- one directory, where every directory in it is searched as the tree says

module _ (g : Geo) (I : List ℕ) (sound : Sound g (length I)) (a d : ℕ)
    (deeper : (x : Tree d) → Part g I d x → reaches (area_of g) I a d (blocks_at x) ≡ has_path (path_to d a x)) where
  -- whether an entry leads there
  leads : (B : ℕ) → Node (Below (suc d)) → Bool
  leads B x = if_dir (kind_is x) (reaches (area_of g) I a d (address_of (view B (suc d)) x))

  node_reach : (x : Node (Below (suc d))) → GoodNode (block_size g) (GoodBelow (block_size g) (suc d)) x → Stored g I (node_pieces (view (block_size g) (suc d)) x)
      → leads (block_size g) x ≡ has_path (inside (path_to d a) x)
  unfolding leads inside address_of view node_pieces GoodBelow render
  node_reach (file z cs) q s = refl
  node_reach (device z cs) q s = refl
  node_reach (sub x) q s = deeper x (record { sound = sound; stored = s; good = q })

  entries_reach : (b o : ℕ) (es fs : List (Entry (Below (suc d)))) (w : Walk) → All (GoodEntry (block_size g) (GoodBelow (block_size g) (suc d))) es
      → Stored g I (entry_pieces (view (block_size g) (suc d)) es)
      → any_in (on_dir (reaches (area_of g) I a d)) w ≡ has_path (among (path_to d a) fs)
      → any_in (on_dir (reaches (area_of g) I a d)) (items_of (view (block_size g) (suc d)) b o es w) ≡ has_path (among (path_to d a) (es ++ fs))
  unfolding items_of any_in on_dir head_of among entry_pieces leads
  entries_reach b o [] fs w q s h = h
  entries_reach b o (e ∷ es) fs w q s h =
      let v = view (block_size g) (suc d) in
      let one : leads (block_size g) e.node ≡ has_path (inside (path_to d a) e.node) = node_reach e.node q.0.below (stored_left g I (node_pieces v e.node) (entry_pieces v es) s) in
      let others = entries_reach b (o + weight e) es fs w q.1 (stored_right g I (node_pieces v e.node) (entry_pieces v es) s) h in
      rw (one, others) (path_entry e.name (inside (path_to d a) e.node) (among (path_to d a) (es ++ fs)))

  blocks-reach : (bs : Tree (suc d)) → All (GoodBlock (block_size g) (GoodBelow (block_size g) (suc d))) bs → Stored g I (dir_pieces (block_size g) (view (block_size g) (suc d)) bs)
      → any_in (on_dir (reaches (area_of g) I a d)) (walk_of (view (block_size g) (suc d)) bs) ≡ has_path (among (path_to d a) (entries_of bs))
  unfolding walk_of entries_of any_in among dir_pieces
  blocks-reach [] q s = refl
  blocks-reach (b ∷ bs) q s =
      let v = view (block_size g) (suc d) in
      let r = stored_tail g I _ _ s in
      entries_reach b.at 0 b.entries (entries_of bs) (walk_of v bs) q.0.each (stored_left g I (entry_pieces v b.entries) (dir_pieces (block_size g) v bs) r)
      (blocks-reach bs q.1 (stored_right g I (entry_pieces v b.entries) (dir_pieces (block_size g) v bs) r))

-- ---- the tree

-- From a directory that the image holds.
part_reach : (g : Geo) (I : List ℕ) (a d : ℕ) (t : Tree d) → Part g I d t → reaches (area_of g) I a d (blocks_at t) ≡ has_path (path_to d a t)
unfolding reaches path_to render
part_reach g I a zero t p = path_last (eqb a (blocks_at t))
part_reach g I a (suc d) t p =
    let in-it = blocks-reach g I p.sound a d (λ x q. part_reach g I a d x q) t p.good.all p.stored in
    rw (part_walk g I (suc d) t p, in-it) (path_more (eqb a (blocks_at t)) (among (path_to d a) (entries_of t)))

-- From the root of a volume.
pub reach_is : (g : Geo) (I : List ℕ) (d : ℕ) (t : Tree d) (u a : ℕ) → Laid g I d t u → reaches (area_of g) I a d (data_at g) ≡ has_path (path_to d a t)
reach_is g I d t u a l = ap (reaches (area_of g) I a d) (sym l.root) ∙ part_reach g I a d t (laid_part g I d t u l)

-- The answer of `reached`, by the struct's own numbers.
pub answer_is : (s : SuperBlock) (I : List ℕ) (r : Bool) (a : ℕ) → Fit s I → r ≡ reaches (area_in s) I a max_depth s.area.0
    → (t : Tree max_depth) (u : ℕ) → Laid (geo_of s) I max_depth t u → r ≡ has_path (path_to max_depth a t)
answer_is s I r a f e t u l = e ∙ ap (λ (A : Area). reaches A I a max_depth A.first) (area_is f) ∙ reach_is (geo_of s) I max_depth t u a l

-- ---- what the two answers mean

-- true: a path leads to the directory, and no other does.
has_path_lem : (g : Geo) (I : List ℕ) (d : ℕ) (t : Tree d) (u a : ℕ) → Laid g I d t u → has_path (path_to d a t) ≡ true → OnlyPath d a t
has_path_lem g I d t u a l r = go (path_to d a t) refl
  where
    go : (o : Option (List Name)) → path_to d a t ≡ o → OnlyPath d a t
    go none h = absurd (not_both r (ap has_path h))
    go (some p) h =
        record {
          path = p;
          there = path_found (block_size g) d a t p l.good h;
          only = λ q s. let k : some q ≡ some p = sym (path_is g I d t u a q l s) ∙ h in let e : q ≡ p = cc in e;
        }

-- The same of the bytes' function: reached, and so at one path; at a path, and so reached.
pub reach_path : (g : Geo) (I : List ℕ) (d : ℕ) (t : Tree d) (u a : ℕ) → Laid g I d t u → reaches (area_of g) I a d (data_at g) ≡ true → OnlyPath d a t
reach_path g I d t u a l r = has_path_lem g I d t u a l (sym (reach_is g I d t u a l) ∙ r)

pub path_reach : (g : Geo) (I : List ℕ) (d : ℕ) (t : Tree d) (u a : ℕ) (p : List Name) → Laid g I d t u → DirAt d a p t → reaches (area_of g) I a d (data_at g) ≡ true
path_reach g I d t u a p l s = reach_is g I d t u a l ∙ ap has_path (path_is g I d t u a p l s)
