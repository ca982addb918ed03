-- The walk of a directory of the tree is the tree's: its entries, each at its place, and the end.
use Rattle.std.specs.Prelude.{Option, Ok}
use mathlib.Core.Path.{◌≡◌, refl, ap, ◌∙◌, sym}
use mathlib.Core.Bool.{true, false}
use mathlib.Core.Logic.{◌⊎◌, inl, inr}
use mathlib.Core.Option.{some}
use mathlib.Core.List.{List, [], ◌∷◌}
use Prim.Native.Nat.{ℕ, zero, suc, ◌+◌, ◌-◌, ◌*◌, ◌≤◌, ◌<◌}
use native.Mathlib.Nat.{add-zero, add_assoc, zero-add}
use native.Mathlib.Omega.{arith}
use lib.Dec.{eqb}
use lib.ListN.{length}
use borrow.Author.Tests.{le-leb, lt-ltb, eq-eqb, ne_eqb}
use Rattle.wire.specs.Pick.{pick}
use Rattle.wire.proofs.Picks.{pick_true, pick_false, either}
use Rattle.block.specs.Block.{Area}
use Rattle.model.specs.Tree.{Name, Entry, Block, Below, Tree, weight, used, Some, find, first, then, holds, lookup, sum}
use Rattle.model.specs.Render.{View, blocks_at, padded, address_of, entry_bytes, entries_bytes, dir_pieces, view, render, Shows, offset, place_of}
use Rattle.model.specs.Geometry.{area_of, Geo, block_size, data_at, Sound}
use Rattle.model.specs.Volume.{All, GoodBlock, GoodBelow, Laid}
use Rattle.model.proofs.Areas.{area, block_inside}
use Rattle.model.proofs.Sums.{chain_long}
use Rattle.model.proofs.Lists.{not_some}
use Rattle.model.proofs.Others.{lookup_there}
use Rattle.dir_entry.specs.declared.DirEntry.{DirEntry}
use Rattle.dir_entry.specs.Entry.{header, place_at}
use Rattle.dir_entry.specs.Shown.{head_of}
use Rattle.dir_entry.proofs.Shown.{Legible, head_weight, less_left, first_shown, block_stops, slot_is, name_is}
use Rattle.read_dir.specs.Walk.{Walk, item, finished, on_slot, in_area, shown, entries_from, chain_from, walk}
use Rattle.read_dir.specs.Finds.{placed, sum_from}
use Rattle.read_dir.specs.declared.Place.{Place}
use Rattle.thm_walk.specs.Shown.{items_of, walk_of, spot_of}
use Rattle.thm_walk.proofs.Parts.{Stored, Part, laid_part, part_find, stored_in, stored_few, entries_legible, block_data, chain-after, below_stored, block_next, block_shown}

-- ---- one block

module _ {X : Type 0} (A : Area) (I : List ℕ) (v : View X) (a : ℕ) (inside : A.size * a + A.size ≤ length I) where
  -- one entry, then the others
  shown_item : (o : ℕ) (e : Entry X) (w : Walk) → Legible v e → o + weight e ≤ A.size - 5 → Shows I (place_at A.size a o) (entry_bytes v e)
      → shown A I (head_of v e) a o w ≡ item (head_of v e) a o e.name w
  unfolding shown head_of
  shown_item o e w l h s =
      pick_false _ _ (ne_eqb (address_of v e.node) 0 (λ z. omega (arith, l.some_address)))
      ∙ ap (λ (x : List ℕ). item (head_of v e) a o x w) (name_is A.size I v a inside o e h s)

  -- A block that shows entries from offset o on, and zeros after them: they are read, with any bound that the block's rest does not pass.
  entries_walk : (es : List (Entry X)) (f o : ℕ) (w : Walk) → A.size - o ≤ f → o + used es ≤ A.size - 5 → All (Legible v) es
      → Shows I (place_at A.size a o) (padded (A.size - 4 - o) (entries_bytes v es)) → entries_from A I f a o w ≡ items_of v a o es w
  unfolding entries_from items_of on_slot used entries_bytes
  entries_walk [] zero o w k h l s = refl
  entries_walk [] (suc f) o w k h l s =
      ap (λ (z : Option DirEntry). on_slot z (λ d. shown A I d a o (entries_from A I f a (o + header + d.len) w)) w) (block_stops A.size I v a o (omega arith) s)
  entries_walk (e ∷ es) zero o w k h l s = let y : 18 ≤ weight e = unfold weight in omega arith in absurd (omega arith)
  entries_walk (e ∷ es) (suc f) o w k h l s =
      let q = first_shown A.size I v a o e es (unfold entries_bytes in s) in
      let g : 18 ≤ weight e = unfold weight in omega arith in
      let m : entries_from A I f a (o + weight e) w ≡ items_of v a (o + weight e) es w
      = entries_walk es f (o + weight e) w (less_left A.size o f (weight e) k (omega arith)) (omega arith) l.1 q.1 in
      ap (λ (z : Option DirEntry). on_slot z (λ d. shown A I d a o (entries_from A I f a (o + header + d.len) w)) w) (slot_is A.size I v a o e l.0 (omega arith) q.0)
      ∙ shown_item o e (entries_from A I f a (o + header + (head_of v e).len) w) l.0 (omega arith) q.0
      ∙ ap (item (head_of v e) a o e.name) (ap (λ (z : ℕ). entries_from A I f a z w) (head_weight v o e) ∙ m)

-- ---- a chain

-- an address of the data area
pub in_area_lem : (A : Area) (I : List ℕ) (a : ℕ) → (A.first ≤ a) × (a < A.end) → in_area A I a ≡ true
in_area_lem A I a h = rw (le-leb A.first a h.0, lt-ltb a A.end h.1)

-- what is read after a block, where the next address is z
after_block : Area → List ℕ → ℕ → ℕ → Walk
after_block A I k z = pick (eqb z 0) finished (chain_from A I k z)

module _ (g : Geo) (I : List ℕ) (sound : Sound g (length I)) (d : ℕ) where
  abbrev shows : View (Below d)
  shows = view (block_size g) d

  -- one block, then what follows it
  block_walk : (b : Block (Below d)) (bs : Tree d) (k : ℕ) → GoodBlock (block_size g) (GoodBelow (block_size g) d) b → Stored g I (dir_pieces (block_size g) shows (b ∷ bs))
      → chain_from (area_of g) I (suc k) b.at
      ≡ items_of shows b.at 0 b.entries (after_block (area_of g) I k (blocks_at bs))
  unfolding chain_from after_block
  block_walk b bs k a s =
      let A : Area = area_of g in
      let r = block_data g I shows b bs s in
      let e : All (Legible shows) b.entries = entries_legible g I sound d b.entries a.each (below_stored g I shows b bs s) in
      pick_true _ _ (in_area_lem A I b.at r)
      ∙ ap (λ (x : ℕ). entries_from A I A.size b.at 0 (after_block A I k x)) (block_next g I shows sound b bs s)
      ∙ entries_walk A I shows b.at (block_inside g (length I) sound b.at r.1) b.entries A.size 0 (after_block A I k (blocks_at bs)) (omega arith) (omega (arith, a.fits)) e
      (block_shown g I shows b bs s)

  ends : (k : ℕ) → after_block (area_of g) I k (blocks_at {X = Below d} []) ≡ finished
  unfolding after_block blocks_at
  ends k = pick_true _ _ (eq-eqb 0 0 refl)

  goes_on : (c : Block (Below d)) (bs : Tree d) (k : ℕ) → Stored g I (dir_pieces (block_size g) shows (c ∷ bs))
      → after_block (area_of g) I k (blocks_at (c ∷ bs)) ≡ chain_from (area_of g) I k c.at
  unfolding after_block blocks_at dir_pieces
  goes_on c bs k s = pick_false _ _ (ne_eqb c.at 0 (λ z. omega (arith, (stored_in g I _ _ s).0, (area g (length I) sound).maps)))

  -- The blocks of a directory from b on.
  chain-walk : (b : Block (Below d)) (bs : Tree d) (k : ℕ) → length bs ≤ k → All (GoodBlock (block_size g) (GoodBelow (block_size g) d)) (b ∷ bs)
      → Stored g I (dir_pieces (block_size g) shows (b ∷ bs)) → chain_from (area_of g) I (suc k) b.at ≡ walk_of shows (b ∷ bs)
  unfolding walk_of
  chain-walk b [] k h a s = block_walk b [] k a.0 s ∙ ap (items_of shows b.at 0 b.entries) (ends k)
  chain-walk b (c ∷ bs) zero h a s = absurd (omega arith)
  chain-walk b (c ∷ bs) (suc k) h a s =
      block_walk b (c ∷ bs) (suc k) a.0 s
      ∙ ap (items_of shows b.at 0 b.entries) (goes_on c bs (suc k) (chain-after g I shows b (c ∷ bs) s) ∙ chain-walk c bs k (omega arith) a.1 (chain-after g I shows b (c ∷ bs) s))

-- The walk of a directory that the image holds.
pub part_walk : (g : Geo) (I : List ℕ) (d : ℕ) (t : Tree d) → Part g I d t → walk (area_of g) I (blocks_at t) ≡ walk_of (view (block_size g) d) t
unfolding blocks_at render
part_walk g I d [] p = absurd p.good.packed
part_walk g I d (b ∷ bs) p =
    let h : length (b ∷ bs) ≤ g.n - data_at g = omega (arith, chain_long (block_size g) (view (block_size g) d) (b ∷ bs), stored_few g I _ p.stored) in
    let e : g.n - data_at g ≡ suc (g.n - data_at g - 1) = omega arith in
    ap (λ (k : ℕ). chain_from (area_of g) I k b.at) e
    ∙ chain-walk g I p.sound d b bs (g.n - data_at g - 1) (omega arith) p.good.all p.stored

-- A directory of a volume, at whatever path, is walked as the tree has it: every entry in order, each at its place, and no damage.
pub walk_is : (g : Geo) (I : List ℕ) (d : ℕ) (t : Tree d) (u : ℕ) (p : List Name) (s : Some) → Laid g I d t u → find d p t ≡ some s
    → walk (area_of g) I (blocks_at s.1) ≡ walk_of (view (block_size g) s.0) s.1
walk_is g I d t u p s l f = part_walk g I s.0 s.1 (part_find g I d p t s (laid_part g I d t u l) f)

-- ---- the sum of the walk, and the place of an entry

module _ {X : Type 0} (v : View X) where
  items-sum : (a : ℕ) (es : List (Entry X)) (o s : ℕ) (w : Walk) → sum_from s (items_of v a o es w) ≡ sum_from (s + used es) w
  unfolding items_of sum_from used
  items-sum a [] o s w = ap (λ (j : ℕ). sum_from j w) (sym (add-zero s))
  items-sum a (e ∷ es) o s w =
      let k : s + (header + (head_of v e).len) + used es ≡ s + (weight e + used es) = omega (arith, head_weight v s e) in
      items-sum a es (o + weight e) (s + (header + (head_of v e).len)) w ∙ ap (λ (j : ℕ). sum_from j w) k

  pub walk-sum : (bs : List (Block X)) (s : ℕ) → sum_from s (walk_of v bs) ≡ Ok (s + sum bs)
  unfolding walk_of sum_from sum
  walk-sum [] s = ap Ok (sym (add-zero s))
  walk-sum (b ∷ bs) s = items-sum b.at b.entries 0 s (walk_of v bs) ∙ walk-sum bs (s + used b.entries) ∙ ap Ok (add_assoc s (used b.entries) (sum bs))

-- The sum of a directory that the image holds is the tree's.
pub part_sum : (g : Geo) (I : List ℕ) (d : ℕ) (t : Tree d) → Part g I d t → sum_from 0 (walk (area_of g) I (blocks_at t)) ≡ Ok (sum t)
part_sum g I d t p = ap (sum_from 0) (part_walk g I d t p) ∙ walk-sum (view (block_size g) d) t 0 ∙ ap Ok (zero-add (sum t))

-- The byte of the image where the entry of a name begins.
pub spot_place : {X : Type 0} (B : ℕ) (n : Name) (bs : List (Block X)) (e : Entry X) → lookup n bs ≡ some e → place_at B (spot_of n bs).block.0 (spot_of n bs).offset ≡ place_of B n bs
unfolding lookup first then spot_of place_of
spot_place B n [] e l = absurd (not_some refl l)
spot_place {X} B n (b ∷ bs) e l = go (either (holds n b)) (spot_place B n bs e)
  where
    place : Place → ℕ
    place q = place_at B q.block.0 q.offset

    go : (holds n b ≡ true) ⊎ (holds n b ≡ false) → (lookup n bs ≡ some e → place (spot_of n bs) ≡ place_of B n bs) → place (spot_of n (b ∷ bs)) ≡ place_of B n (b ∷ bs)
    go (inl c) r = ap place (pick_true (placed b.at (offset n b.entries)) (spot_of n bs) c) ∙ sym (pick_true (B * b.at + 4 + offset n b.entries) (place_of B n bs) c)
    go (inr c) r =
        ap place (pick_false (placed b.at (offset n b.entries)) (spot_of n bs) c) ∙ r (sym (lookup_there n b bs c) ∙ l)
        ∙ sym (pick_false (B * b.at + 4 + offset n b.entries) (place_of B n bs) c)
