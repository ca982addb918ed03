-- The stores of a write are the edit of the model: every byte of the image that they leave, on every well-formed volume.
use mathlib.Core.Path.{◌≡◌, refl, sym, ap, ◌∙◌, subst}
use mathlib.Core.Option.{some}
use mathlib.Core.List.{List, [], ◌∷◌, ◌++◌}
use Prim.Native.Nat.{ℕ, zero, suc, ◌+◌, ◌-◌, ◌*◌, ◌^◌, ◌≤◌, ◌<◌}
use native.Mathlib.Nat.{mul-add, mul-le-mul_left}
use native.Mathlib.Decide.{dec_lt}
use native.Mathlib.Omega.{arith}
use lib.ListN.{length, get_or, take, drop, length-append, length-replicate, take-append-drop}
use Rattle.wire.specs.Be.{bytes, splice, zeros}
use Rattle.block.specs.Block.{cell, Off, Kept}
use Rattle.block.proofs.Blocks.{kept_trans, kept_less}
use Rattle.bits.specs.Bit.{bit}
use Rattle.model.specs.Tree.{Name, Cell, Entry, Below, Tree, lookup, change, edit, Some, find}
use Rattle.model.specs.Render.{View, cells_at, blocks_at, padded, address_of, size_of, entry_bytes, cell_pieces, node_pieces, view, render, blocks, count, place_of, Shows, ShowsAll, Wiped}
use Rattle.model.specs.Geometry.{Geo, block_size, map_at, data_at, map_bits, super_bytes, used_count, Sound}
use Rattle.model.specs.Volume.{All, file_limit, blocks_for, GoodFile, GoodEntry, GoodBelow, GoodTree, Volume, max_depth}
use Rattle.model.specs.Calls.{free_blocks, file_entry, stream, places, chop, rewrite, refiled, rewritten, Outside, Makes, TreeWrites}
use Rattle.model.proofs.Alike.{change_at}
use Rattle.model.proofs.Areas.{area, size_large, laid_volume, volume_laid, block_inside}
use Rattle.model.proofs.Contents.{blocks-some, blocks_enough, length-stream, length-places, rewrite_good, rewrite-length, rewrite-places}
use Rattle.model.proofs.Counts.{count_append, count_same, cells_long, ats_cells}
use Rattle.model.proofs.Cuts.{Cut, edit_below_at}
use Rattle.model.proofs.Demand.{whole_super}
use Rattle.model.proofs.Edits.{refiled_name}
use Rattle.model.proofs.Frame.{cut_count, cut_shows, shows_frame, cut_within, cut_within_new}
use Rattle.model.proofs.Free.{free_found, free_once}
use Rattle.model.proofs.Full.{Whole, whole_tree, good_lookup, whole_cells}
use Rattle.model.proofs.Good.{good_change, good_edit}
use Rattle.model.proofs.OneVolume.{used_is}
use Rattle.model.proofs.Owns.{renewed_at, shows_kept, cut_shown, cut_whole}
use Rattle.model.proofs.Commit.{cut_length, cut_shorter}
use Rattle.bitmap_block.specs.Bitmap.{mark, Room}
use Rattle.bitmap_block.proofs.Stores.{mark_is, sound_kept, mark_kept, Aside, aside_data, aside_other, volume_clears, volume_room}
use Rattle.dir_entry.specs.declared.DirEntry.{DirEntry}
use Rattle.dir_entry.specs.Shown.{head_of}
use Rattle.read_dir.specs.declared.Place.{Place}
use Rattle.thm_walk.specs.Shown.{spot_of}
use Rattle.thm_walk.proofs.Parts.{Stored, Part, laid_part, part_find, stored_lookup}
use Rattle.thm_walk.proofs.Walks.{spot_place}
use Rattle.write_store.specs.Write.{resized, spread, wrote, HeldCells, CanWrite}
use Rattle.write_store.proofs.Chops.{chop-splice}
use Rattle.write_store.proofs.Files.{new_entry, file_cut, spot_fits, spot_block}
use Rattle.write_store.proofs.Filing.{filing_kept, filing_shown}
use Rattle.write_store.proofs.Fills.{Row, Filled, spread_is}
use Rattle.write_store.proofs.Resizes.{Resized, Outcome, resized_is}

-- ---- lists

count_take : (i k : ℕ) (l : List ℕ) → count i (take k l) ≤ count i l
count_take i k l = omega (arith, count_append i (take k l) (drop k l), ap (count i) (take-append-drop k l))

-- ---- a file of the tree

-- a write leaves the root where it was
rewritten_at : (d : ℕ) (p : List Name) (n : Name) (now z : ℕ) (es : List Cell) (t : Tree d) → blocks_at (rewritten d p n now z es t) ≡ blocks_at t
unfolding rewritten edit
rewritten_at zero [] n now z es t = change_at n (new_entry 0 n now z es) t
rewritten_at (suc d) [] n now z es t = change_at n (new_entry 0 n now z es) t
rewritten_at zero (m ∷ p) n now z es t = refl
rewritten_at (suc d) (m ∷ p) n now z es t = edit_below_at (suc d) m p (λ k. k) (λ e bs. change n (λ x. refiled now z es x.name x.time x.node) bs) t

module _ (g : Geo) (I : List ℕ) (d : ℕ) (t : Tree d) (v : Volume g I d t) (p : List Name) (n : Name) (s : Some) (f : find d p t ≡ some s)
    (k z : ℕ) (cs : List Cell) (l : lookup n s.1 ≡ some (file_entry n k z cs)) where
  abbrev B : ℕ
  B = block_size g

  abbrev dir_view : View (Below s.0)
  dir_view = view (block_size g) s.0

  part : Part g I s.0 s.1
  part = part_find g I d p t s (laid_part g I d t _ v.laid) f

  stored : Stored g I (cell_pieces cs)
  unfolding render node_pieces file_entry
  stored = stored_lookup g I dir_view n s.1 (file_entry n k z cs) l part.stored

  pub good_file : GoodFile (block_size g) z cs
  unfolding file_entry
  good_file = (good_lookup B (GoodBelow B s.0) n s.1 (file_entry n k z cs) part.good l).below

  good_entry : GoodEntry B (GoodBelow B s.0) (file_entry n k z cs)
  good_entry = good_lookup B (GoodBelow B s.0) n s.1 (file_entry n k z cs) part.good l

  -- what a write of it does to the pieces
  cut : (now z' : ℕ) (es : List Cell) → Cut B (render B d t) (render B d (rewritten d p n now z' es t)) (cell_pieces cs) (cell_pieces es) (place_of B n s.1)
      (entry_bytes dir_view (file_entry n k z cs)) (entry_bytes dir_view (file_entry n now z' es))
  unfolding refiled file_entry node_pieces
  cut now z' es = file_cut B n now z' es d p t s f (file_entry n k z cs) l

  some_cells : 1 ≤ length cs
  some_cells = omega (arith, good_file.long, blocks-some B (omega (arith, size_large g)) z)

  -- its blocks are reached
  within : (i : ℕ) → count i (places cs) ≤ count i (blocks B d t)
  within i = omega (arith, cut_within B _ _ _ _ _ _ _ (cut k z cs) i, ap (count i) (ats_cells cs))

  -- The file's chain is as W2, W4 and W5 say.
  pub file_held : HeldCells g I cs
  file_held =
      record {
        shown = stored.shown;
        whole = good_file.cells;
        once = λ i. omega (arith, within i, v.laid.once i);
        range = λ i q. v.laid.range i (omega (arith, within i));
        has_bit = λ i q. v.laid.bits i (omega (arith, within i));
        marked = λ i q. marked i q;
      }
    where
      marked : (i : ℕ) → 1 ≤ count i (places cs) → mark g I (i - data_at g) ≡ 1
      marked i q =
          let r = v.laid.range i (omega (arith, within i)) in
          let e : data_at g + (i - data_at g) ≡ i = omega (arith, r.0) in
          mark_is g I (i - data_at g) ∙ v.marked (i - data_at g) (omega (arith, r.0, v.laid.bits i (omega (arith, within i))))
          ∙ ap (λ (x : ℕ). count x (blocks B d t)) e ∙ omega (arith, within i, v.laid.once i)

  enough : length cs ≤ used_count g I
  enough = omega (arith, used_is g I d t v, cut_shorter B _ _ _ _ _ _ _ (cut k z cs), ap length (ats_cells cs), length-places cs)

  -- no block is both reached and free
  apart : (i : ℕ) → count i (blocks B d t) + count i (free_blocks g d t) ≤ 1
  apart i = go (dec_lt 0 (count i (free_blocks g d t)))
    where
      go : Dec (0 < count i (free_blocks g d t)) → count i (blocks B d t) + count i (free_blocks g d t) ≤ 1
      go (yes q) = omega (arith, (free_found g d t (length I) v.laid.sound i q).2, free_once g d t i)
      go (no q) = omega (arith, v.laid.once i)

  -- ---- a write of buf at c

  module _ (c : ℕ) (buf : List ℕ) (now : ℕ) (some_bytes : 1 ≤ length buf) (position : c ≤ z) (limit : c + length buf ≤ file_limit)
      (room : blocks_for (block_size g) (c + length buf) - length cs ≤ length (free_blocks g d t)) where
    abbrev new : ℕ
    new = blocks_for (block_size g) (c + length buf)

    abbrev es : List Cell
    es = rewrite (block_size g) (free_blocks g d t) c buf cs

    place : Room g I (new - length cs)
    place = volume_room g I d t v (new - length cs) room

    some_new : 1 ≤ new
    some_new = blocks-some B (omega (arith, size_large g)) (c + length buf)

    -- What the code asks of the image is there.
    can_write : CanWrite g I (head_of (view (block_size g) s.0) (file_entry n k z cs)) (spot_of n s.1) c (length buf)
    unfolding head_of address_of size_of file_entry render
    can_write =
        let e : length cs ≡ blocks_for B z = good_file.long in
        record {
          some_bytes = some_bytes;
          position = position;
          limit = limit;
          size = record {
            chain = record { cells = cs; starts = refl; long = e; held = file_held };
            some_old = omega (arith, some_cells);
            some_new = some_new;
            room = subst (λ (x : ℕ). Room g I (new - x)) e place;
            enough = omega (arith, enough);
          };
          entry = record {
            block = (part.stored.range (spot_of n s.1).block.0 (spot_block n B dir_view s.1 (file_entry n k z cs) l)).1;
            fits = spot_fits n B (GoodBelow B s.0) s.1 (file_entry n k z cs) part.good.all l;
          };
        }

    -- first the blocks
    J₁ : List ℕ
    J₁ = resized g I (cells_at cs) (length cs) new

    outcome : Outcome g I J₁ cs new
    unfolding J₁
    outcome = resized_is g I v.laid.sound cs new file_held some_cells some_new place enough

    abbrev ds : List Cell
    ds = outcome.cells

    r : Resized g I J₁ cs ds new
    r = outcome.is

    sound₁ : Sound g (length J₁)
    sound₁ = sound_kept g I v.laid.sound _ J₁ r.kept

    free_spots : places ds ≡ take new (places cs ++ free_blocks g d t)
    free_spots = r.spots ∙ ap (λ (x : List ℕ). take new (places cs ++ x)) (volume_clears g I d t v)

    -- each of them was the file's or free
    from : (i : ℕ) → count i (places ds) ≤ count i (places cs) + count i (free_blocks g d t)
    from i = omega (arith, ap (count i) free_spots, count_take i new (places cs ++ free_blocks g d t), count_append i (places cs) (free_blocks g d t))

    -- then the bytes
    J₂ : List ℕ
    J₂ = spread (block_size g) J₁ (cells_at cs) c buf new

    row : Row g J₁ ds
    row = record { shown = r.held.shown; whole = r.held.whole; once = r.held.once; range = r.held.range }

    filled : Filled g J₁ J₂ ds (chop (block_size g - 4) (places ds) (splice (stream ds) c buf))
    unfolding J₂
    filled =
        subst (λ (x : ℕ). Filled g J₁ (spread (block_size g) J₁ x c buf new) ds (chop (block_size g - 4) (places ds) (splice (stream ds) c buf))) r.starts
        (subst (λ (x : ℕ). Filled g J₁ (spread (block_size g) J₁ (cells_at ds) c buf x) ds (chop (block_size g - 4) (places ds) (splice (stream ds) c buf))) r.long
        (spread_is g J₁ sound₁ ds row c buf some_bytes
        (subst (λ (x : ℕ). c + length buf ≤ (block_size g - 4) * x) (sym r.long) (blocks_enough B (omega (arith, size_large g)) (c + length buf)))))

    -- which are those of the model
    es_is : chop (block_size g - 4) (places ds) (splice (stream ds) c buf) ≡ es
    unfolding rewrite
    es_is =
        let w : ℕ = block_size g - 4 in
        let X : List ℕ = stream cs ++ zeros (w * (new - length cs)) in
        let ps : List ℕ = take new (places cs ++ free_blocks g d t) in
        let m : length ps ≡ new = sym (ap length free_spots) ∙ length-places ds ∙ r.long in
        let long : length X ≡ w * length cs + w * (new - length cs)
        = length-append (stream cs) (zeros (w * (new - length cs))) ∙ omega (arith, length-stream B cs good_file.cells, length-replicate {A = ℕ} (w * (new - length cs)) 0) in
        let wide : w * new ≤ length X
        = omega (arith, long, mul-add w (length cs) (new - length cs), mul-le-mul_left w (let q : new ≤ length cs + (new - length cs) = omega arith in q)) in
        (λ i. chop w (free_spots i) (splice (r.bytes i) c buf))
        ∙ ap (λ (x : ℕ). chop w ps (splice (take (w * x) X) c buf)) (sym m)
        ∙ chop-splice w ps X c buf (subst (λ (x : ℕ). w * x ≤ length X) (sym m) wide)
        (subst (λ (x : ℕ). c + length buf ≤ w * x) (sym m) (blocks_enough B (omega (arith, size_large g)) (c + length buf)))

    shown₂ : ShowsAll (block_size g) J₂ (cell_pieces es)
    shown₂ = subst (λ (x : List Cell). ShowsAll (block_size g) J₂ (cell_pieces x)) es_is filled.shown

    -- last the entry
    J₃ : List ℕ
    J₃ = renewed_at J₂ (place_of (block_size g) n s.1) (c + length buf) now

    -- that is what the code stores
    stores_are : wrote g I (head_of (view (block_size g) s.0) (file_entry n k z cs)) (spot_of n s.1) c buf now ≡ J₃
    unfolding wrote head_of address_of size_of file_entry J₁ J₂ J₃
    stores_are =
        let old : blocks_for B z ≡ length cs = sym good_file.long in
        λ i. renewed_at (spread B (resized g I (cells_at cs) (old i) new) (cells_at cs) c buf new) (spot_place B n s.1 (file_entry n k z cs) l i) (c + length buf) now

    -- ---- what has changed

    abbrev u : Tree d
    u = rewritten d p n now (c + length buf) es t

    C : Cut B (render B d t) (render B d u) (cell_pieces cs) (cell_pieces es) (place_of B n s.1) (entry_bytes dir_view (file_entry n k z cs)) (entry_bytes dir_view (file_entry n now (c + length buf) es))
    C = cut now (c + length buf) es

    es_spots : places es ≡ places ds
    unfolding rewrite
    es_spots = rewrite-places B z c (free_blocks g d t) buf cs (omega (arith, size_large g)) good_file position room ∙ sym free_spots

    es_long : length es ≡ new
    es_long = rewrite-length B z c (free_blocks g d t) buf cs (omega (arith, size_large g)) good_file position room

    es_good : GoodFile B (c + length buf) es
    es_good = rewrite_good B z c (free_blocks g d t) buf cs (omega (arith, size_large g)) good_file position room limit

    counts : (i : ℕ) → count i (blocks B d u) + count i (places cs) ≡ count i (blocks B d t) + count i (places ds)
    counts i = omega (arith, cut_count B _ _ _ _ _ _ _ C i, ap (count i) (ats_cells cs), ap (count i) (ats_cells es ∙ es_spots))

    -- the directory's block is reached, and is none of the file's
    reached : 1 ≤ count C.at (blocks B d t)
    reached = omega (arith, cut_within B _ _ _ _ _ _ _ C C.at, count_same C.at C.at [] refl)

    no_old : count C.at (places cs) ≡ 0
    no_old =
        omega (
          arith,
          cut_within B _ _ _ _ _ _ _ C C.at,
          count_same C.at C.at [] refl,
          ap (count C.at) (ats_cells cs),
          v.laid.once C.at,
        )

    no_cell : count C.at (places ds) ≡ 0
    no_cell =
        omega (
          arith,
          cut_within B _ _ _ _ _ _ _ C C.at,
          count_same C.at C.at [] refl,
          ap (count C.at) (ats_cells cs),
          v.laid.once C.at,
          apart C.at,
          from C.at,
        )

    dir_in : (data_at g ≤ C.at) × (C.at < g.n)
    dir_in = v.laid.range C.at reached

    kept₂ : Kept B (λ b o. Aside g b o × ((count b (places ds) ≡ 0) × (count b (places cs) ≡ 0))) I J₂
    kept₂ = kept_trans r.kept (kept_less (λ b o q. q.1.0) filled.kept)

    sound₂ : Sound g (length J₂)
    sound₂ = sound_kept g I v.laid.sound _ J₂ kept₂

    whole : All (Whole B) (render B d t)
    whole = whole_tree B (omega (arith, size_large g)) d t v.laid.good

    inside : B * C.at + B ≤ length J₂
    inside = block_inside g (length J₂) sound₂ C.at dir_in.1

    entry_kept : Kept B (Off C.at (4 + length C.low + 5) 12) J₂ J₃
    unfolding J₃
    entry_kept = filing_kept B _ _ _ _ _ dir_view n k now z (c + length buf) cs es C (omega (arith, size_large g)) whole J₂ inside

    -- every other byte is as it was
    kept₃ : Kept B (λ b o. (Aside g b o × ((count b (places ds) ≡ 0) × (count b (places cs) ≡ 0))) × Off C.at (4 + length C.low + 5) 12 b o) I J₃
    kept₃ = kept_trans (kept_less (λ b o q. q.0) kept₂) (kept_less (λ b o q. q.1) entry_kept)

    -- ---- what the image shows

    dir_old : Shows J₂ (B * C.at) (bytes 4 C.next ++ padded (B - 4) (C.low ++ (entry_bytes dir_view (file_entry n k z cs) ++ C.high)))
    dir_old =
        shows_kept B _ I J₂ C.at (bytes 4 C.next ++ padded (B - 4) (C.low ++ (entry_bytes dir_view (file_entry n k z cs) ++ C.high))) kept₂ (λ o _. (aside_data g (length I) v.laid.sound C.at o dir_in.0, (no_cell, no_old)))
        (omega (arith, cut_whole B _ _ _ _ _ _ _ C whole)) (cut_shown B _ _ _ _ _ _ _ C I v.laid.shown)

    first_same : cells_at es ≡ cells_at cs
    first_same = starts es ds es_spots ∙ r.starts
      where
        starts : (xs ys : List Cell) → places xs ≡ places ys → cells_at xs ≡ cells_at ys
        starts xs ys e = sym (head xs) ∙ ap (λ (q : List ℕ). get_or q 0 0) e ∙ head ys
          where
            head : (zs : List Cell) → get_or (places zs) 0 0 ≡ cells_at zs
            head [] = unfold places cells_at in refl
            head (x ∷ zs) = unfold places cells_at in refl

    dir_new : Shows J₃ (B * C.at) (bytes 4 C.next ++ padded (B - 4) (C.low ++ (entry_bytes dir_view (file_entry n now (c + length buf) es) ++ C.high)))
    unfolding J₃
    dir_new = filing_shown B _ _ _ _ _ dir_view n k now z (c + length buf) cs es C (omega (arith, size_large g)) whole J₂ inside first_same dir_old

    cells_new : ShowsAll B J₃ (cell_pieces es)
    unfolding cell
    cells_new =
        shows_frame B J₂ J₃ (cell_pieces es) (whole_cells B (omega (arith, size_large g)) es es_good.cells)
        (λ b q i h. entry_kept.at b i (λ e _ _. omega (arith, no_cell, ap (λ (x : ℕ). count x (places ds)) e, ap (count b) (ats_cells es ∙ es_spots))) h) shown₂

    shown₃ : ShowsAll B J₃ (render B d u)
    unfolding cell
    shown₃ =
        cut_shows B _ _ _ _ _ _ _ C I J₃ whole v.laid.once v.laid.shown
        (λ b q y m i h. kept₃.at b i (
          (
            aside_data g (length I) v.laid.sound b i (v.laid.range b q).0,
            (omega (arith, from b, apart b, y, ap (count b) (ats_cells cs)), omega (arith, y, ap (count b) (ats_cells cs))),
          ),
          λ e _ _. m e,
        ) h) dir_new cells_new

    -- ---- bits and count

    super_free : count g.K (places ds) ≡ 0
    super_free = go (dec_lt 0 (count g.K (places ds)))
      where
        go : Dec (0 < count g.K (places ds)) → count g.K (places ds) ≡ 0
        go (yes q) = absurd (omega (arith, (r.held.range g.K q).0, (area g (length I) v.laid.sound).maps))
        go (no q) = omega arith

    map_free : (b : ℕ) → b < data_at g → count b (places ds) ≡ 0
    map_free b h = go (dec_lt 0 (count b (places ds)))
      where
        go : Dec (0 < count b (places ds)) → count b (places ds) ≡ 0
        go (yes q) = absurd (omega (arith, (r.held.range b q).0))
        go (no q) = omega arith

    marks₃ : (x : ℕ) → x < map_bits g → mark g J₃ x + count (data_at g + x) (places cs) ≡ mark g I x + count (data_at g + x) (places ds)
    marks₃ x q =
        omega (
          arith,
          r.marks x q,
          mark_kept g J₁ sound₁ _ J₂ filled.kept (λ b o _ h. map_free b h) x q,
          mark_kept g J₂ sound₂ _ J₃ entry_kept (λ b o _ h e _ _. omega (arith, dir_in.0)) x q,
        )

    marked₃ : (x : ℕ) → x < map_bits g → bit J₃ (B * map_at g) x ≡ count (data_at g + x) (blocks B d u)
    marked₃ x q =
        let a = marks₃ x q in
        let b = mark_is g J₃ x in
        let e = mark_is g I x in
        omega (arith, a, b, e, v.marked x q, counts (data_at g + x), within (data_at g + x))

    total : r.total ≡ data_at g + length (blocks B d u)
    total =
        omega (
          arith,
          r.sum,
          used_is g I d t v,
          cut_length B _ _ _ _ _ _ _ C,
          cells_long cs,
          cells_long es,
          es_long,
        )

    top₁ : Shows J₁ (B * g.K) (super_bytes g r.total)
    top₁ = r.top (subst (λ (x : ℕ). Shows I (B * g.K) (super_bytes g x)) (sym (used_is g I d t v)) (volume_laid g I d t v).top)

    top₃ : Shows J₃ (B * g.K) (super_bytes g (data_at g + length (blocks B d u)))
    top₃ =
        let q : length (super_bytes g r.total) ≤ B = omega (arith, whole_super g r.total) in
        subst (λ (x : ℕ). Shows J₃ (B * g.K) (super_bytes g x)) total
        (shows_kept B _ J₂ J₃ g.K (super_bytes g r.total) entry_kept (λ o _ e _ _. omega (arith, dir_in.0, (area g (length I) v.laid.sound).maps)) q
        (shows_kept B _ J₁ J₂ g.K (super_bytes g r.total) filled.kept (λ o _. super_free) q top₁))

    -- ---- the volume

    good_dir : now < 2 ^ 64 → GoodTree B s.0 (change n (new_entry B n now (c + length buf) es) s.1)
    good_dir clock =
        good_change n (new_entry B n now (c + length buf) es) (λ x. refiled_name now (c + length buf) es x.name x.time x.node) B (GoodBelow B s.0) s.1 part.good
        (λ x m a. renewed x (let e : some (file_entry n k z cs) ≡ some x = sym l ∙ m in let q : file_entry n k z cs ≡ x = cc in q))
      where
        renewed : (x : Entry (Below s.0)) → file_entry n k z cs ≡ x → GoodEntry B (GoodBelow B s.0) (new_entry B n now (c + length buf) es x)
        renewed x e = subst (λ (y : Entry (Below s.0)). GoodEntry B (GoodBelow B s.0) (new_entry B n now (c + length buf) es y)) e
            (unfold refiled file_entry in record { good_name = good_entry.good_name; clock = clock; below = es_good })

    volume : now < 2 ^ 64 → Volume g J₃ d u
    unfolding rewritten
    volume clock =
        laid_volume g J₃ d u (record {
          sound = sound_kept g J₂ sound₂ _ J₃ entry_kept;
          top = top₃;
          root = rewritten_at d p n now (c + length buf) es t ∙ v.laid.root;
          shown = shown₃;
          once = λ i. omega (arith, counts i, from i, apart i);
          range = λ i q. range i q (dec_lt 0 (count i (blocks B d t)));
          bits = λ i q. has_bit i q (dec_lt 0 (count i (blocks B d t)));
          good = good_edit B d p (λ x. x) (λ e bs. change n (λ x. refiled now (c + length buf) es x.name x.time x.node) bs) t s f v.laid.good (good_dir clock) (λ x h. h);
        }) marked₃
      where
        range : (i : ℕ) → 1 ≤ count i (blocks B d u) → Dec (0 < count i (blocks B d t)) → (data_at g ≤ i) × (i < g.n)
        range i q (yes h) = v.laid.range i h
        range i q (no h) = r.held.range i (omega (arith, counts i))

        has_bit : (i : ℕ) → 1 ≤ count i (blocks B d u) → Dec (0 < count i (blocks B d t)) → i < data_at g + map_bits g
        has_bit i q (yes h) = v.laid.bits i h
        has_bit i q (no h) = r.held.has_bit i (omega (arith, counts i))

    -- ---- the frame

    -- A block that is reached neither before nor after is as it was.
    frame : Kept B (λ b o. Outside g d u b × (count b (blocks B d t) ≡ 0)) I J₃
    frame = kept_less (λ b o q.
        let a = q.0.not_reached in (
          (
            aside_other g b o q.0.not_super q.0.not_map,
            (omega (arith, a, cut_within_new B _ _ _ _ _ _ _ C b, ap (count b) (ats_cells es ∙ es_spots)), omega (arith, q.1, within b)),
          ),
          λ e _ _. omega (arith, a, cut_within_new B _ _ _ _ _ _ _ C b, count_same b C.at [] e),
        )) kept₃

    -- One that was reached and no longer is was the file's, and is wiped.
    wiped : (b : ℕ) → 1 ≤ count b (blocks B d t) → count b (blocks B d u) ≡ 0 → Wiped B J₃ b
    unfolding cell
    wiped b q y i h =
        let none : count b (places ds) ≡ 0 = omega (arith, y, cut_within_new B _ _ _ _ _ _ _ C b, ap (count b) (ats_cells es ∙ es_spots)) in
        entry_kept.at b i (λ e _ _. omega (arith, y, cut_within_new B _ _ _ _ _ _ _ C b, count_same b C.at [] e)) h
        ∙ filled.kept.at b i none h
        ∙ r.wiped b (omega (arith, counts b)) none i h

    makes : now < 2 ^ 64 → Makes g d t u I J₃
    makes clock = record { volume = volume clock; wiped = wiped; frame = frame }

    -- The stores of a write are the edit of the model.
    wrote_file : now < 2 ^ 64 → TreeWrites g d p n now c buf t I (wrote g I (head_of (view (block_size g) s.0) (file_entry n k z cs)) (spot_of n s.1) c buf now)
    wrote_file clock =
        record {
          size = z;
          time = k;
          cells = cs;
          occupied = record { dir = s; there = f; entry = file_entry n k z cs; held = l };
          is_file = refl;
          some_bytes = some_bytes;
          position = position;
          limit = limit;
          room = room;
          makes = subst (Makes g d t u I) (sym stores_are) (makes clock);
        }

-- ---- the theorem, with its parts named as a caller has them

-- C12: for every well-formed volume and every file in it, the image that `write` leaves (its contract) is that of `TreeWrites`.
pub wrote_is : (g : Geo) (I : List ℕ) (t : Tree max_depth) (p : List Name) (n : Name) (s : Some) (x : Entry (Below s.0)) (k z : ℕ) (cs : List Cell) (e : DirEntry) (at : Place) (c : ℕ) (buf : List ℕ) (now : ℕ)
    → Volume g I max_depth t → find max_depth p t ≡ some s → lookup n s.1 ≡ some x → x ≡ file_entry n k z cs → e ≡ head_of (view (block_size g) s.0) x → at ≡ spot_of n s.1
    → 1 ≤ length buf → c ≤ z → c + length buf ≤ file_limit → blocks_for (block_size g) (c + length buf) - length cs ≤ length (free_blocks g max_depth t) → now < 2 ^ 64
    → TreeWrites g max_depth p n now c buf t I (wrote g I e at c buf now)
wrote_is g I t p n s x k z cs e at c buf now v f l q h a some_bytes position limit room clock =
    let m : lookup n s.1 ≡ some (file_entry n k z cs) = l ∙ ap some q in
    let b : e ≡ head_of (view (block_size g) s.0) (file_entry n k z cs) = h ∙ ap (head_of (view (block_size g) s.0)) q in
    subst (λ (J : List ℕ). TreeWrites g max_depth p n now c buf t I J) (λ i. wrote g I (sym b i) (sym a i) c buf now)
    (wrote_file g I max_depth t v p n s f k z cs m c buf now some_bytes position limit room clock)

-- the same with the tree named: its blocks are those that the entry has
pub wrote_makes : (g : Geo) (I : List ℕ) (t : Tree max_depth) (p : List Name) (n : Name) (s : Some) (x : Entry (Below s.0)) (k z : ℕ) (cs : List Cell) (e : DirEntry) (at : Place) (c : ℕ) (buf : List ℕ) (now : ℕ)
    → Volume g I max_depth t → find max_depth p t ≡ some s → lookup n s.1 ≡ some x → x ≡ file_entry n k z cs → e ≡ head_of (view (block_size g) s.0) x → at ≡ spot_of n s.1
    → 1 ≤ length buf → c ≤ z → c + length buf ≤ file_limit → blocks_for (block_size g) (c + length buf) - length cs ≤ length (free_blocks g max_depth t) → now < 2 ^ 64
    → Makes g max_depth t (rewritten max_depth p n now (c + length buf) (rewrite (block_size g) (free_blocks g max_depth t) c buf cs) t) I (wrote g I e at c buf now)
wrote_makes g I t p n s x k z cs e at c buf now v f l q h a some_bytes position limit room clock =
    let m : lookup n s.1 ≡ some (file_entry n k z cs) = l ∙ ap some q in
    let b : e ≡ head_of (view (block_size g) s.0) (file_entry n k z cs) = h ∙ ap (head_of (view (block_size g) s.0)) q in
    subst (Makes g max_depth t (rewritten max_depth p n now (c + length buf) (rewrite (block_size g) (free_blocks g max_depth t) c buf cs) t) I)
    (sym (stores_are g I max_depth t v p n s f k z cs m c buf now some_bytes position limit room) ∙ λ i. wrote g I (sym b i) (sym a i) c buf now)
    (makes g I max_depth t v p n s f k z cs m c buf now some_bytes position limit room clock)

-- What `write` requires holds there.
pub can_write_is : (g : Geo) (I : List ℕ) (t : Tree max_depth) (p : List Name) (n : Name) (s : Some) (x : Entry (Below s.0)) (k z : ℕ) (cs : List Cell) (e : DirEntry) (at : Place) (c : ℕ) (buf : List ℕ)
    → Volume g I max_depth t → find max_depth p t ≡ some s → lookup n s.1 ≡ some x → x ≡ file_entry n k z cs → e ≡ head_of (view (block_size g) s.0) x → at ≡ spot_of n s.1
    → 1 ≤ length buf → c ≤ z → c + length buf ≤ file_limit → blocks_for (block_size g) (c + length buf) - length cs ≤ length (free_blocks g max_depth t)
    → CanWrite g I e at c (length buf)
can_write_is g I t p n s x k z cs e at c buf v f l q h a some_bytes position limit room =
    let m : lookup n s.1 ≡ some (file_entry n k z cs) = l ∙ ap some q in
    let b : e ≡ head_of (view (block_size g) s.0) (file_entry n k z cs) = h ∙ ap (head_of (view (block_size g) s.0)) q in
    subst (λ (y : DirEntry). CanWrite g I y at c (length buf)) (sym b)
    (subst (λ (y : Place). CanWrite g I (head_of (view (block_size g) s.0) (file_entry n k z cs)) y c (length buf)) (sym a)
    (can_write g I max_depth t v p n s f k z cs m c buf 0 some_bytes position limit room))
