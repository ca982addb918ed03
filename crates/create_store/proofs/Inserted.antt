-- The stores of a create are the tree's edit: the theorem on the definitions of specs/, for files and for directories.
use mathlib.Core.Path.{◌≡◌, refl, sym, ap, ◌∙◌, subst}
use mathlib.Core.Bool.{true, false}
use mathlib.Core.Logic.{◌⊎◌, inl, inr}
use mathlib.Core.Option.{some}
use mathlib.Core.List.{List, [], ◌∷◌, ◌++◌}
use Prim.Native.Nat.{ℕ, zero, suc, ◌+◌, ◌-◌, ◌^◌, ◌≤◌, ◌<◌}
use native.Mathlib.Omega.{arith}
use lib.Dec.{leb}
use lib.ListN.{length, length-replicate}
use Rattle.wire.specs.Be.{bytes, zeros}
use Rattle.wire.proofs.Picks.{either, pick_true, pick_false}
use Rattle.block.proofs.Blocks.{kept_less}
use Rattle.model.specs.Tree.{Name, file, sub, Entry, Block, Below, Tree, weight, used, sum, Packed, Absent, fill, insert, Edit, edit, Some, find, blank}
use Rattle.model.specs.Render.{Piece, View, cells_at, blocks_at, padded, address_of, size_of, entries_bytes, cell_pieces, node_pieces, entry_pieces, dir_pieces, view, render, ats, count, blocks}
use Rattle.model.specs.Geometry.{area_of, Geo, block_size, data_at}
use Rattle.model.specs.Volume.{GoodName, GoodFile, GoodBelow, GoodTree, Volume}
use Rattle.model.specs.Calls.{free_blocks, entry_room, to_create, entry_block, dir_block, file_entry, created, dir_added, created_dir, empty_cell, Makes, TreeCreatesFile, TreeCreatesDir}
use Rattle.model.proofs.Areas.{size_large}
use Rattle.model.proofs.Contents.{blocks-some, blocks_least}
use Rattle.model.proofs.Counts.{tally, tally_none, tally_append, dir_tally}
use Rattle.model.proofs.Cuts.{up_to, dir_split, pieces_both}
use Rattle.model.proofs.Full.{good_find, whole_tree, zero_block}
use Rattle.model.proofs.Good.{good_insert}
use Rattle.model.proofs.Levels.{good_dir_added}
use Rattle.model.proofs.Inserts.{insert_at}
use Rattle.bitmap_block.proofs.Stores.{aside_data, aside_other}
use Rattle.dir_entry.specs.declared.Kind.{Kind}
use Rattle.dir_entry.specs.declared.Kind.TheVariants.{Dir, File}
use Rattle.dir_entry.specs.Shown.{head_of}
use Rattle.dir_entry.proofs.Shown.{entry_bytes_lem}
use Rattle.thm_walk.proofs.Parts.{Stored, Part, laid_part, part_find, stored_right, stored_in}
use Rattle.std.specs.Prelude.{Ok}
use Rattle.own_entry.specs.Own.{Own, OwnOf}
use Rattle.own_entry.proofs.Renews.{Made, sub-blocks, sum_makes}
use Rattle.create_store.specs.declared.Spot.{Spot}
use Rattle.create_store.specs.Create.{spot_for, spot_on, needed, SpotIn, entered, opened, place_in, inserted, inserted_at}
use Rattle.create_store.proofs.Gaps.{Gap, Full, gap, new_block}
use Rattle.create_store.proofs.Stages.{Stage, stage_start, stage_commit, kept_block}
use Rattle.create_store.proofs.Enters.{NewEntry, Entered, insert-entered}
use Rattle.create_store.proofs.Spotted.{spot_is, spot_needs}

-- ---- the new entries

-- A new file's, and its one block.
file_new : {X : Type 0} (g : Geo) (v : View X) (n : Name) (now x : ℕ) → NewEntry g v File n now x (file_entry n now 0 (empty_cell g x ∷ []))
unfolding file_entry head_of address_of size_of cells_at node_pieces cell_pieces
file_new g v n now x =
    let z : zeros (block_size g) ≡ bytes 4 0 ++ zeros (block_size g - 4) = zero_block (block_size g) (omega (arith, size_large g)) in
    record {
      named = refl;
      bytes_are = entry_bytes_lem v (file_entry n now 0 (empty_cell g x ∷ []));
      block = ap (λ (l : List ℕ). let q : List Piece = record { at = x; full = l } ∷ [] in q) (sym z);
    }

-- A new directory's.
dir_new : (g : Geo) (e : ℕ) (n : Name) (now x : ℕ) → NewEntry g (view (block_size g) (suc e)) Dir n now x (record { name = n; time = now; node = sub (blank e x) })
unfolding head_of address_of size_of node_pieces view dir_pieces blank blocks_at entries_bytes entry_pieces sum used
dir_new g e n now x =
    let z : zeros (block_size g) ≡ bytes 4 0 ++ padded (block_size g - 4) [] = new_block (block_size g) (omega (arith, size_large g)) in
    record {
      named = refl;
      bytes_are = entry_bytes_lem (view (block_size g) (suc e)) (record { name = n; time = now; node = sub (blank e x) });
      block = ap (λ (l : List ℕ). let q : List Piece = record { at = x; full = l } ∷ [] in q) (sym z);
    }

-- ---- no block goes

module _ {X : Type 0} (B i top w : ℕ) (v : View X) (e : Entry X) where
  none_yet : tally i (dir_pieces B v []) ≡ 0
  unfolding dir_pieces
  none_yet = tally_none i

  insert-more : (bs : List (Block X)) → tally i (dir_pieces B v bs) ≤ tally i (dir_pieces B v (insert top w e bs))
  unfolding insert
  insert-more [] = omega (arith, none_yet)
  insert-more (b ∷ bs) = go (either (leb (used b.entries + weight e) top)) (insert-more bs)
    where
      added : Block X
      added = fill (λ es. es ++ (e ∷ [])) b

      go : (leb (used b.entries + weight e) top ≡ true) ⊎ (leb (used b.entries + weight e) top ≡ false) → tally i (dir_pieces B v bs) ≤ tally i (dir_pieces B v (insert top w e bs))
          → tally i (dir_pieces B v (b ∷ bs)) ≤ tally i (dir_pieces B v (insert top w e (b ∷ bs)))
      go (inl c) r =
          omega (
            arith,
            ap (λ (z : List (Block X)). tally i (dir_pieces B v z)) (pick_true (added ∷ bs) (b ∷ insert top w e bs) c),
            dir_tally B v i b bs,
            dir_tally B v i added bs,
            ap (tally i) (pieces_both B v b.entries (e ∷ [])),
            tally_append i (entry_pieces v b.entries) (entry_pieces v (e ∷ [])),
          )
      go (inr c) r =
          omega (
            arith,
            r,
            ap (λ (z : List (Block X)). tally i (dir_pieces B v z)) (pick_false (added ∷ bs) (b ∷ insert top w e bs) c),
            dir_tally B v i b bs,
            dir_tally B v i b (insert top w e bs),
          )

-- ---- any new entry

module _ (g : Geo) (I : List ℕ) (d : ℕ) (t : Tree d) (v : Volume g I d t) (p : List Name) (s : Some) (h : find d p t ≡ some s) (n : Name) (now : ℕ)
    (enough : to_create (entry_room g) n s.1 ≤ length (free_blocks g d t)) where
  abbrev B : ℕ
  B = block_size g

  abbrev free : List ℕ
  free = free_blocks g d t

  abbrev spot : Spot
  spot = spot_on (entry_room g) n 0 s.1

  held : Part g I s.0 s.1
  held = part_find g I d p t s (laid_part g I d t _ v.laid) h

  inner : (i : ℕ) → count i (ats (render B s.0 s.1)) ≤ count i (blocks B d t)
  inner = sub-blocks B d p t s h

  start : Stage g I d t (render B s.0 s.1) I (render B s.0 s.1) free
  start = stage_start g I d t (render B s.0 s.1) v inner (whole_tree B (omega (arith, size_large g)) s.0 s.1 held.good) held.stored.shown

  module _ (few : length n ≤ 255) (k : Kind) (x : ℕ) (is : x ≡ entry_block g n s.1 free) (e : Entry (Below s.0)) (new : NewEntry g (view B s.0) k n now x e) where
    abbrev stored : List ℕ
    stored = entered g (opened g I spot) (place_in g I spot) k n now

    enters : Entered g I d t (render B s.0 s.1) v inner (view B s.0) k n now few x e new I s.1 free
    unfolding render
    enters = go s.1 held.good.packed is enough start
      where
        go : (bs : Tree s.0) → Packed bs → x ≡ entry_block g n bs free → to_create (entry_room g) n bs ≤ length free
            → Stage g I d t (render B s.0 s.1) I (dir_pieces B (view B s.0) bs) free → Entered g I d t (render B s.0 s.1) v inner (view B s.0) k n now few x e new I bs free
        go [] q i m a = absurd q
        go (b ∷ bs) q i m a = insert-entered g I d t (render B s.0 s.1) v inner (view B s.0) k n now few x e new I b bs free i m a

    -- The entry's own block.
    inserted_block : inserted_at g I spot ≡ x
    inserted_block = enters.block

    module _ (clock : now < 2 ^ 64) (f : Edit) (becomes : f s.0 s.1 ≡ insert (entry_room g) (dir_block free) e s.1) (good : GoodTree B s.0 (f s.0 s.1)) where
      abbrev became : Tree s.0
      became = f s.0 s.1

      last_stage : Stage g I d t (render B s.0 s.1) stored (render B s.0 became) enters.left
      unfolding render
      last_stage =
          subst (λ (u : Tree s.0). Stage g I d t (dir_pieces B (view B s.0) s.1) stored (dir_pieces B (view B s.0) u) enters.left) (sym becomes) enters.stage

      same_first : blocks_at became ≡ blocks_at s.1
      same_first = ap blocks_at becomes ∙ insert_at (entry_room g) (dir_block free) e s.1 held.good.packed

      -- every block that the directory reached it reaches still
      more : (b : ℕ) → count b (blocks B s.0 s.1) ≤ count b (blocks B s.0 became)
      unfolding tally render
      more b =
          subst (λ (u : Tree s.0). count b (ats (dir_pieces B (view B s.0) s.1)) ≤ count b (ats (dir_pieces B (view B s.0) u))) (sym becomes)
          (insert-more B b (entry_room g) (dir_block free) (view B s.0) e s.1)

      -- All is stored but the own entry, and no block is given back.
      all_made : Made g I stored d t s.0 s.1 became
      all_made =
          let c = stage_commit g I d t (render B s.0 s.1) s.0 s.1 became refl stored enters.left last_stage same_first good in
          record {
            commit = c;
            others = λ b l z. kept_block B _ I stored last_stage.kept b (λ j. (aside_data g (length I) v.laid.sound b j (v.laid.range b l).0, omega (arith, l, z, c.fresh b)));
            wiped = λ b l z. absurd (omega (arith, l, z, more b));
            frame = kept_less (λ b j q. (aside_other g b j q.0 q.1, omega (arith, q.2))) last_stage.kept;
          }

      -- The stores of a create make the edited tree.
      inserted_makes : (own : Own) → OwnOf B d p t own → Makes g d t (edit d p (λ _. now) f t) I (inserted g I (blocks_at s.1) spot own k n now)
      unfolding inserted
      inserted_makes own w = sum_makes g I stored d t p now f s own v h all_made w clock

-- ---- files and directories

-- a new file is good
file_good : (g : Geo) (x : ℕ) → GoodFile (block_size g) 0 (empty_cell g x ∷ [])
file_good g x = record {
  limit = omega arith;
  long = omega (arith, blocks-some (block_size g) (omega (arith, size_large g)) 0, blocks_least (block_size g) (omega (arith, size_large g)) 0 1 (omega arith) (omega arith));
  cells = (record { whole = length-replicate {A = ℕ} (block_size g - 4) 0 }, tt);
}

-- a name's entry fits a block
name_fits : (g : Geo) (n : Name) → GoodName n → 18 + length n ≤ block_size g - 5
name_fits g n m = omega (arith, m.few_bytes, size_large g)

file_tree : (g : Geo) (w x : ℕ) (n : Name) (now e : ℕ) (bs : Tree e) → GoodTree (block_size g) e bs → Absent n bs → GoodName n → now < 2 ^ 64
    → GoodTree (block_size g) e (insert (entry_room g) w (file_entry n now 0 (empty_cell g x ∷ [])) bs)
unfolding file_entry weight
file_tree g w x n now e bs q a m c =
    good_insert (block_size g) (GoodBelow (block_size g) e) w (record { name = n; time = now; node = file 0 (empty_cell g x ∷ []) })
    (record { good_name = m; clock = c; below = file_good g x }) (name_fits g n m) bs q a

module _ (g : Geo) (I : List ℕ) (d : ℕ) (t : Tree d) (v : Volume g I d t) (p : List Name) (n : Name) (now : ℕ) (own : Own) (own_is : OwnOf (block_size g) d p t own)
    (name : GoodName n) (clock : now < 2 ^ 64) where
  file_creates : (s : Some) → find d p t ≡ some s → Absent n s.1 → to_create (entry_room g) n s.1 ≤ length (free_blocks g d t)
      → TreeCreatesFile g d p n now t I (inserted g I (blocks_at s.1) (spot_on (entry_room g) n 0 s.1) own File n now)
  unfolding created
  file_creates s h a r =
      let w : ℕ = dir_block (free_blocks g d t) in
      let x : ℕ = entry_block g n s.1 (free_blocks g d t) in
      record {
        vacant = record { dir = s; there = h; free = a };
        name = name;
        room = r;
        makes = inserted_makes g I d t v p s h n now r name.few_bytes File x refl (file_entry n now 0 (empty_cell g x ∷ [])) (file_new g (view (block_size g) s.0) n now x) clock
            (λ e bs. insert (entry_room g) w (file_entry n now 0 (empty_cell g x ∷ [])) bs) refl
            (file_tree g w x n now s.0 s.1 (good_find (block_size g) d p t s v.laid.good h) a name clock) own own_is;
      }

  dir_creates : (e : ℕ) (bs : Tree e) → find d p t ≡ some (e, bs) → 1 ≤ e → Absent n bs → to_create (entry_room g) n bs ≤ length (free_blocks g d t)
      → TreeCreatesDir g d p n now t I (inserted g I (blocks_at bs) (spot_on (entry_room g) n 0 bs) own Dir n now)
  unfolding created_dir dir_added
  dir_creates zero bs h l a r = absurd (omega arith)
  dir_creates (suc e) bs h l a r =
      let w : ℕ = dir_block (free_blocks g d t) in
      let x : ℕ = entry_block g n bs (free_blocks g d t) in
      record {
        vacant = record { dir = (suc e, bs); there = h; free = a };
        name = name;
        shallow = l;
        room = r;
        makes = inserted_makes g I d t v p (suc e, bs) h n now r name.few_bytes Dir x refl (record { name = n; time = now; node = sub (blank e x) }) (dir_new g e n now x) clock
            (dir_added (entry_room g) w x n now) refl
            (good_dir_added (block_size g) w x n now (suc e) bs (good_find (block_size g) d p t (suc e, bs) v.laid.good h) a name clock (name_fits g n name)) own own_is;
      }

  -- ==== the theorem

  module _ (s : Some) (h : find d p t ≡ some s) (dir : ℕ) (begins : blocks_at s.1 ≡ dir) (at : Spot) (at_is : Ok at ≡ spot_for (area_of g) I dir (length n))
      (absent : Absent n s.1) (room : to_create (entry_room g) n s.1 ≤ length (free_blocks g d t)) where
    -- the spot that code finds is the tree's
    at_spot : at ≡ spot_on (entry_room g) n 0 s.1
    at_spot =
        let both : Ok at ≡ Ok (spot_on (entry_room g) n 0 s.1)
        = at_is ∙ ap (λ (a : ℕ). spot_for (area_of g) I a (length n)) (sym begins) ∙ spot_is g I d t _ p n s v.laid h in
        cc

    -- Creating a file.
    pub inserted_file : TreeCreatesFile g d p n now t I (inserted g I dir at own File n now)
    inserted_file =
        subst (λ (a : ℕ). TreeCreatesFile g d p n now t I (inserted g I a at own File n now)) begins
        (subst (λ (z : Spot). TreeCreatesFile g d p n now t I (inserted g I (blocks_at s.1) z own File n now)) (sym at_spot) (file_creates s h absent room))

    -- Creating a directory, where the one that holds it is not at the last level.
    pub inserted_dir : 1 ≤ s.0 → TreeCreatesDir g d p n now t I (inserted g I dir at own Dir n now)
    inserted_dir l =
        subst (λ (a : ℕ). TreeCreatesDir g d p n now t I (inserted g I a at own Dir n now)) begins
        (subst (λ (z : Spot). TreeCreatesDir g d p n now t I (inserted g I (blocks_at s.1) z own Dir n now)) (sym at_spot) (dir_creates s.0 s.1 h l absent room))

    -- The block that is answered is the entry's.
    pub inserted_entry : inserted_at g I at ≡ entry_block g n s.1 (free_blocks g d t)
    inserted_entry =
        ap (inserted_at g I) at_spot
        ∙ inserted_block g I d t v p s h n now room name.few_bytes File _ refl _ (file_new g (view (block_size g) s.0) n now (entry_block g n s.1 (free_blocks g d t)))

-- ---- what `insert` asks of its spot, on a volume

module _ (g : Geo) (I : List ℕ) (d : ℕ) (t : Tree d) (n : Name) where
  -- a block of a directory is one of the data
  block_data : {X : Type 0} (v : View X) (bs xs : List (Block X)) (b : Block X) (ys : List (Block X)) → bs ≡ xs ++ (b ∷ ys) → Stored g I (dir_pieces (block_size g) v bs) → (data_at g ≤ b.at) × (b.at < g.n)
  unfolding dir_pieces
  block_data v bs xs b ys e s =
      stored_in g I _ _ (stored_right g I (up_to (block_size g) v b.at xs) _ (subst (Stored g I) (ap (dir_pieces (block_size g) v) e ∙ dir_split (block_size g) v xs b ys) s))

  module _ (at : Spot) where
    in_gap : {X : Type 0} (v : View X) (bs : List (Block X)) → Stored g I (dir_pieces (block_size g) v bs) → at ≡ spot_on (entry_room g) n 0 bs → Gap (entry_room g) n 0 bs ⊎ Full (entry_room g) n 0 bs
        → SpotIn (area_of g) (length n) at
    in_gap v bs s e (inl r) =
        let w = block_data v bs r.earlier r.block r.later r.is s in
        subst (SpotIn (area_of g) (length n)) (sym (e ∙ r.spot)) (w.0, w.1, omega (arith, r.room))
    in_gap v bs s e (inr r) =
        let w = block_data v bs r.earlier r.last [] r.is s in
        subst (SpotIn (area_of g) (length n)) (sym (e ∙ r.spot)) (w.0, w.1)

    in_part : (e : ℕ) (bs : Tree e) → Part g I e bs → at ≡ spot_on (entry_room g) n 0 bs
        → SpotIn (area_of g) (length n) at × (needed at ≡ to_create (entry_room g) n bs)
    unfolding render
    in_part e [] q k = absurd q.good.packed
    in_part e (b ∷ bs) q k = (in_gap (view (block_size g) e) (b ∷ bs) q.stored k (gap (entry_room g) n 0 b bs), ap needed k ∙ spot_needs (entry_room g) n 0 b bs)

    module _ (v : Volume g I d t) (p : List Name) (s : Some) (h : find d p t ≡ some s) (dir : ℕ) (begins : blocks_at s.1 ≡ dir)
        (at_is : Ok at ≡ spot_for (area_of g) I dir (length n)) where
      both : SpotIn (area_of g) (length n) at × (needed at ≡ to_create (entry_room g) n s.1)
      both =
          let told : Ok at ≡ Ok (spot_on (entry_room g) n 0 s.1)
          = at_is ∙ ap (λ (a : ℕ). spot_for (area_of g) I a (length n)) (sym begins) ∙ spot_is g I d t _ p n s v.laid h in
          let is : at ≡ spot_on (entry_room g) n 0 s.1 = cc in
          in_part s.0 s.1 (part_find g I d p t s (laid_part g I d t _ v.laid) h) is

      -- the blocks that it needs are those that a create adds,
      pub spot_adds : needed at ≡ to_create (entry_room g) n s.1
      spot_adds = both.1
