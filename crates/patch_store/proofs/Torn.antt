-- S14, of the stores: whichever blocks of a patch have arrived, the image is the one that another patch leaves, of as many bytes, each of
-- them old or new, and with the old time or the new one.
use mathlib.Core.Path.{◌≡◌, refl, sym, ap, ◌∙◌, subst}
use mathlib.Core.Logic.{◌⊎◌, inl, inr}
use mathlib.Core.Option.{some}
use mathlib.Core.List.{List, [], ◌∷◌, ◌++◌}
use Prim.Native.Nat.{ℕ, ◌+◌, ◌-◌, ◌*◌, ◌/◌, ◌%◌, ◌^◌, ◌≤◌, ◌<◌}
use native.Mathlib.Nat.{div-add-mod, mod-lt}
use native.Mathlib.Decide.{dec_lt, ℕ_discrete}
use native.Mathlib.Omega.{arith}
use lib.ListN.{length, get_or, take, drop, length-append}
use lib.Seq.{ext_get_or}
use Rattle.wire.specs.Be.{bytes, splice}
use Rattle.wire.proofs.Numbers.{length_bytes, length-splice, splice_before, splice_in, splice-after}
use Rattle.block.specs.Block.{cell, Off, Kept}
use Rattle.model.specs.Tree.{Name, Cell, Entry, Below, Tree, lookup, weight, Some, find}
use Rattle.model.specs.Render.{View, cells_at, cell_pieces, node_pieces, kind_of, address_of, size_of, entry_bytes, view, render, count, place_of, Shows, ShowsAll}
use Rattle.model.specs.Geometry.{Geo, block_size}
use Rattle.model.specs.Volume.{All, blocks_for, GoodFile, GoodBelow, Volume, max_depth}
use Rattle.model.specs.Calls.{file_entry, refiled, rewritten, stream, places, overlaid}
use Rattle.model.proofs.Alike.{alike_refl, length_entry}
use Rattle.model.proofs.Areas.{size_large, block_inside}
use Rattle.model.proofs.Commit.{shows_one, shows_two}
use Rattle.model.proofs.Contents.{blocks_enough}
use Rattle.model.proofs.Counts.{count_same, ats_cells}
use Rattle.model.proofs.Cuts.{Cut}
use Rattle.model.proofs.Demand.{shown_near}
use Rattle.model.proofs.Frame.{cut_within, shows_frame}
use Rattle.model.proofs.Full.{Whole, whole_tree, whole_cells, good_find, good_lookup}
use Rattle.model.proofs.Owns.{renewed_at, own_entry, renewed_kept, cut_shown, cut_fits}
use Rattle.dir_entry.specs.declared.DirEntry.{DirEntry}
use Rattle.dir_entry.specs.Entry.{place_at}
use Rattle.dir_entry.specs.Shown.{head_of}
use Rattle.read_dir.specs.declared.Place.{Place}
use Rattle.thm_walk.specs.Shown.{spot_of}
use Rattle.thm_walk.proofs.Walks.{spot_place}
use Rattle.write_store.specs.Write.{spread, HeldCells}
use Rattle.write_store.proofs.Files.{file_cut}
use Rattle.write_store.proofs.Fills.{Filled}
use Rattle.write_store.proofs.Writes.{good_file, file_held}
use Rattle.patch_store.specs.Patch.{patched}
use Rattle.patch_store.specs.Torn.{BlockAs, Arrived, Mixture}
use Rattle.patch_store.proofs.Mixes.{next_same, Mixed, mixed, long_mixed, mixed_is}
use Rattle.patch_store.proofs.Tails.{filled, overlaid-places, overlaid_good}

-- ---- a store of bytes

-- of those that are there
splice_shown : (I : List ℕ) (p : ℕ) (vs : List ℕ) → p + length vs ≤ length I → Shows I p vs → splice I p vs ≡ I
splice_shown I p vs h s = ext_get_or 0 (splice I p vs) I (length-splice I p vs h) (λ j _. go j (dec_lt j p) (dec_lt j (p + length vs)))
  where
    go : (j : ℕ) → Dec (j < p) → Dec (j < p + length vs) → get_or (splice I p vs) j 0 ≡ get_or I j 0
    go j (yes a) b = splice_before I p vs h j a
    go j (no a) (yes b) =
        let e : p + (j - p) ≡ j = omega arith in
        ap (λ (x : ℕ). get_or (splice I p vs) x 0) (sym e) ∙ splice_in I p vs h (j - p) (omega arith) ∙ sym (s (j - p) (omega arith)) ∙ ap (λ (x : ℕ). get_or I x 0) e
    go j (no a) (no b) = splice-after I p vs h j (omega arith)

-- over lists that agree at a place
splice_agree : (X Y : List ℕ) (p : ℕ) (vs : List ℕ) → p + length vs ≤ length X → length X ≡ length Y → (j : ℕ) → get_or X j 0 ≡ get_or Y j 0
    → get_or (splice X p vs) j 0 ≡ get_or (splice Y p vs) j 0
splice_agree X Y p vs h e j q = go (dec_lt j p) (dec_lt j (p + length vs))
  where
    k : p + length vs ≤ length Y
    k = omega arith

    go : Dec (j < p) → Dec (j < p + length vs) → get_or (splice X p vs) j 0 ≡ get_or (splice Y p vs) j 0
    go (yes a) b = splice_before X p vs h j a ∙ q ∙ sym (splice_before Y p vs k j a)
    go (no a) (yes b) =
        let e : p + (j - p) ≡ j = omega arith in
        ap (λ (x : ℕ). get_or (splice X p vs) x 0) (sym e) ∙ splice_in X p vs h (j - p) (omega arith) ∙ sym (splice_in Y p vs k (j - p) (omega arith)) ∙ ap (λ (x : ℕ). get_or (splice Y p vs) x 0) e
    go (no a) (no b) = splice-after X p vs h j (omega arith) ∙ q ∙ sym (splice-after Y p vs k j (omega arith))

renewed_agree : (X Y : List ℕ) (q z k : ℕ) → q + 17 ≤ length X → length X ≡ length Y → (j : ℕ) → get_or X j 0 ≡ get_or Y j 0 → get_or (renewed_at X q z k) j 0 ≡ get_or (renewed_at Y q z k) j 0
renewed_agree X Y q z k h e j a =
    let lz : length (bytes 4 z) ≡ 4 = length_bytes 4 z in
    let lk : length (bytes 8 k) ≡ 8 = length_bytes 8 k in
    let x : length (splice X (q + 5) (bytes 4 z)) ≡ length X = length-splice X (q + 5) (bytes 4 z) (omega arith) in
    let y : length (splice Y (q + 5) (bytes 4 z)) ≡ length Y = length-splice Y (q + 5) (bytes 4 z) (omega arith) in
    splice_agree (splice X (q + 5) (bytes 4 z)) (splice Y (q + 5) (bytes 4 z)) (q + 9) (bytes 8 k) (omega arith) (x ∙ e ∙ sym y) j
    (splice_agree X Y (q + 5) (bytes 4 z) (omega arith) e j a)

module _ (g : Geo) (I : List ℕ) (t : Tree max_depth) (p : List Name) (n : Name) (s : Some) (x : Entry (Below s.0)) (k z : ℕ) (cs : List Cell) (e : DirEntry) (at : Place) (c : ℕ) (buf : List ℕ)
    (v : Volume g I max_depth t) (there : find max_depth p t ≡ some s) (l : lookup n s.1 ≡ some x) (is : x ≡ file_entry n k z cs) (head : e ≡ head_of (view (block_size g) s.0) x) (spot : at ≡ spot_of n s.1)
    (some_bytes : 1 ≤ length buf) (inside : c + length buf ≤ z) where
  abbrev B : ℕ
  B = block_size g

  abbrev dir_view : View (Below s.0)
  dir_view = view (block_size g) s.0

  abbrev E : List ℕ
  E = entry_bytes (view (block_size g) s.0) (file_entry n k z cs)

  -- the byte where the entry begins
  abbrev q : ℕ
  q = place_of (block_size g) n s.1

  found : lookup n s.1 ≡ some (file_entry n k z cs)
  found = l ∙ ap some is

  good : GoodFile (block_size g) z cs
  good = good_file g I max_depth t v p n s there k z cs found

  held : HeldCells g I cs
  held = file_held g I max_depth t v p n s there k z cs found

  five : 5 ≤ block_size g
  five = omega (arith, size_large g)

  -- ---- the entry

  C : Cut (block_size g) (render (block_size g) max_depth t) (render (block_size g) max_depth (rewritten max_depth p n k z cs t)) (cell_pieces cs) (cell_pieces cs) (place_of (block_size g) n s.1) E E
  unfolding refiled file_entry node_pieces
  C = file_cut (block_size g) n k z cs max_depth p t s there (file_entry n k z cs) found

  all_whole : All (Whole (block_size g)) (render (block_size g) max_depth t)
  all_whole = whole_tree B (omega (arith, size_large g)) max_depth t v.laid.good

  no_cell : count C.at (places cs) ≡ 0
  no_cell =
      omega (
        arith,
        cut_within B _ _ _ _ _ _ _ C C.at,
        count_same C.at C.at [] refl,
        ap (count C.at) (ats_cells cs),
        v.laid.once C.at,
      )

  in_image : block_size g * C.at + block_size g ≤ length I
  in_image =
      block_inside g (length I) v.laid.sound C.at
      (v.laid.range C.at (omega (arith, cut_within B _ _ _ _ _ _ _ C C.at, count_same C.at C.at [] refl))).1

  place : place_of (block_size g) n s.1 ≡ block_size g * C.at + (4 + length C.low)
  place = C.stands ∙ omega arith

  E-long : length E ≡ 18 + length n
  unfolding weight file_entry
  E-long = length_entry dir_view (file_entry n k z cs)

  room : 4 + length C.low + 18 ≤ block_size g
  room = omega (arith, cut_fits B _ _ _ _ _ _ _ C all_whole, length-append C.low (E ++ C.high), length-append E C.high, E-long)

  entry_shown : Shows I (place_of (block_size g) n s.1) E
  entry_shown = subst (λ (y : ℕ). Shows I y E) (sym C.stands) (own_entry B C.at C.next C.low E C.high I (cut_shown B _ _ _ _ _ _ _ C I v.laid.shown))

  fits : q + 17 ≤ length I
  fits = omega (arith, place, room, in_image)

  -- The entry has its size already,
  size_same : splice I (place_of (block_size g) n s.1 + 5) (bytes 4 z) ≡ I
  unfolding entry_bytes address_of size_of kind_of file_entry
  size_same =
      let A : List ℕ = 1 ∷ bytes 4 (cells_at cs) in
      let la : length (bytes 4 (cells_at cs)) ≡ 4 = length_bytes 4 (cells_at cs) in
      let ls : length (bytes 4 z) ≡ 4 = length_bytes 4 z in
      let size : Shows I (q + length A) (bytes 4 z) = shows_two I q A (bytes 4 z) (shows_one I q (A ++ bytes 4 z) (bytes 8 k ++ (length n ∷ n)) entry_shown) in
      let at5 : q + length A ≡ q + 5 = omega arith in
      splice_shown I (q + 5) (bytes 4 z) (omega (arith, fits)) (subst (λ (y : ℕ). Shows I y (bytes 4 z)) at5 size)

  -- and its time.
  renewed_same : renewed_at I (place_of (block_size g) n s.1) z k ≡ I
  unfolding entry_bytes address_of size_of kind_of file_entry
  renewed_same =
      let A : List ℕ = 1 ∷ bytes 4 (cells_at cs) in
      let N : List ℕ = length n ∷ n in
      let la : length (bytes 4 (cells_at cs)) ≡ 4 = length_bytes 4 (cells_at cs) in
      let ls : length (bytes 4 z) ≡ 4 = length_bytes 4 z in
      let lk : length (bytes 8 k) ≡ 8 = length_bytes 8 k in
      let both : length (A ++ bytes 4 z) ≡ 9 = length-append A (bytes 4 z) ∙ omega arith in
      let time : Shows I (q + length (A ++ bytes 4 z)) (bytes 8 k) = shows_one I (q + length (A ++ bytes 4 z)) (bytes 8 k) N (shows_two I q (A ++ bytes 4 z) (bytes 8 k ++ N) entry_shown) in
      let at9 : q + length (A ++ bytes 4 z) ≡ q + 9 = omega arith in
      ap (λ (X : List ℕ). splice X (q + 9) (bytes 8 k)) size_same
      ∙ splice_shown I (q + 9) (bytes 8 k) (omega (arith, fits)) (subst (λ (y : ℕ). Shows I y (bytes 8 k)) at9 time)

  -- Its time is one.
  pub old_clock : k < 2 ^ 64
  unfolding file_entry
  old_clock = (good_lookup B (GoodBelow B s.0) n s.1 (file_entry n k z cs) (good_find B max_depth p t s v.laid.good there) found).clock

  -- ---- a patch of bytes vs that end in the file

  -- the bytes alone
  abbrev S : List ℕ → List ℕ
  S vs = spread (block_size g) I (cells_at cs) c vs (blocks_for (block_size g) (c + length vs))

  patched_at_lem : (vs : List ℕ) (τ : ℕ) → patched g I e at c vs τ ≡ renewed_at (S vs) (place_of (block_size g) n s.1) z τ
  unfolding patched head_of address_of size_of file_entry
  patched_at_lem vs τ =
      let h : e ≡ head_of dir_view (file_entry n k z cs) = head ∙ ap (head_of dir_view) is in
      let a : e.addr.0 ≡ cells_at cs = ap (λ (y : DirEntry). y.addr.0) h in
      let y : e.size ≡ z = ap (λ (y : DirEntry). y.size) h in
      let w : place_at B at.block.0 at.offset ≡ q = ap (λ (y : Place). place_at B y.block.0 y.offset) spot ∙ spot_place B n s.1 (file_entry n k z cs) found in
      λ i. renewed_at (spread B I (a i) c vs (blocks_for B (c + length vs))) (w i) (y i) τ

  module _ (vs : List ℕ) (some : 1 ≤ length vs) (ends : c + length vs ≤ z) (τ : ℕ) where
    fill : Filled g I (S vs) cs (overlaid (block_size g) c vs cs)
    fill = filled g I v.laid.sound z cs good held c buf some_bytes inside vs some ends

    entry_kept : Kept (block_size g) (Off C.at (4 + length C.low + 5) 12) (S vs) (renewed_at (S vs) (place_of (block_size g) n s.1) z τ)
    entry_kept =
        subst (λ (y : ℕ). Kept (block_size g) (Off C.at (4 + length C.low + 5) 12) (S vs) (renewed_at (S vs) y z τ)) (sym place)
        (renewed_kept B (S vs) C.at (4 + length C.low) z τ (omega (arith, in_image, fill.kept.size)) room)

    patched_long : length (patched g I e at c vs τ) ≡ length I
    patched_long = ap length (patched_at_lem vs τ) ∙ entry_kept.size ∙ fill.kept.size

    -- A block of the file has the bytes,
    in_file : (b i : ℕ) → 1 ≤ count b (places cs) → i < block_size g → get_or (patched g I e at c vs τ) (block_size g * b + i) 0 ≡ get_or (S vs) (block_size g * b + i) 0
    unfolding cell
    in_file b i m h =
        ap (λ (X : List ℕ). get_or X (B * b + i) 0) (patched_at_lem vs τ) ∙ entry_kept.at b i (λ a _ _. omega (arith, no_cell, m, ap (λ (y : ℕ). count y (places cs)) a)) h

    -- the entry's block the time,
    in_entry : (i : ℕ) → i < block_size g → get_or (patched g I e at c vs τ) (block_size g * C.at + i) 0 ≡ get_or (renewed_at I (place_of (block_size g) n s.1) z τ) (block_size g * C.at + i) 0
    unfolding cell
    in_entry i h =
        ap (λ (X : List ℕ). get_or X (B * C.at + i) 0) (patched_at_lem vs τ)
        ∙ renewed_agree (S vs) I q z τ (omega (arith, fits, fill.kept.size)) fill.kept.size (B * C.at + i) (fill.kept.at C.at i no_cell h)

    -- and any other is as it was.
    elsewhere : (b i : ℕ) → count b (places cs) ≡ 0 → (b ≡ C.at → ⊥) → i < block_size g → get_or (patched g I e at c vs τ) (block_size g * b + i) 0 ≡ get_or I (block_size g * b + i) 0
    unfolding cell
    elsewhere b i m d h =
        ap (λ (X : List ℕ). get_or X (B * b + i) 0) (patched_at_lem vs τ) ∙ entry_kept.at b i (λ a _ _. d a) h ∙ fill.kept.at b i m h

    cells_shown : ShowsAll (block_size g) (patched g I e at c vs τ) (cell_pieces (overlaid (block_size g) c vs cs))
    cells_shown =
        let ds : List Cell = overlaid B c vs cs in
        shows_frame B (S vs) (patched g I e at c vs τ) (cell_pieces ds) (whole_cells B (omega (arith, size_large g)) ds (overlaid_good B z cs five good c vs ends).cells)
        (λ b m i h. in_file b i (omega (arith, m, ap (count b) (ats_cells ds ∙ overlaid-places B z cs five good c vs ends))) h) fill.shown

  -- ---- what it leaves alone

  -- No byte changes but data bytes of the file's blocks and the time in its entry.
  pub patch_frame : (now : ℕ) → Kept (block_size g) (λ b i. ((count b (places cs) ≡ 0) ⊎ (i < 4))
      × (place_of (block_size g) n s.1 + 9 ≤ block_size g * b + i → block_size g * b + i < place_of (block_size g) n s.1 + 17 → ⊥)) I (patched g I e at c buf now)
  unfolding cell
  patch_frame now = record { size = patched_long buf some_bytes inside now; at = λ b i m h. go b i m.1 h (dec_lt 0 (count b (places cs))) (ℕ_discrete b C.at) m.0 }
    where
      five_kept : splice I (q + 5) (bytes 4 z) ≡ I
      five_kept = size_same

      in_time : (i : ℕ) → (place_of (block_size g) n s.1 + 9 ≤ block_size g * C.at + i → block_size g * C.at + i < place_of (block_size g) n s.1 + 17 → ⊥)
          → get_or (renewed_at I (place_of (block_size g) n s.1) z now) (block_size g * C.at + i) 0 ≡ get_or I (block_size g * C.at + i) 0
      in_time i m = ap (λ (X : List ℕ). get_or (splice X (q + 9) (bytes 8 now)) (B * C.at + i) 0) five_kept ∙ by (dec_lt (B * C.at + i) (q + 9))
        where
          lk : length (bytes 8 now) ≡ 8
          lk = length_bytes 8 now

          by : Dec (block_size g * C.at + i < place_of (block_size g) n s.1 + 9)
              → get_or (splice I (place_of (block_size g) n s.1 + 9) (bytes 8 now)) (block_size g * C.at + i) 0 ≡ get_or I (block_size g * C.at + i) 0
          by (yes a) = splice_before I (q + 9) (bytes 8 now) (omega (arith, fits, lk)) (B * C.at + i) a
          by (no a) = splice-after I (q + 9) (bytes 8 now) (omega (arith, fits, lk)) (B * C.at + i) (past (dec_lt (B * C.at + i) (q + 17)))
            where
              past : Dec (block_size g * C.at + i < place_of (block_size g) n s.1 + 17) → place_of (block_size g) n s.1 + 9 + length (bytes 8 now) ≤ block_size g * C.at + i
              past (yes d) = absurd (m (omega arith) d)
              past (no d) = omega (arith, lk)

      go : (b i : ℕ) → (place_of (block_size g) n s.1 + 9 ≤ block_size g * b + i → block_size g * b + i < place_of (block_size g) n s.1 + 17 → ⊥) → i < block_size g
          → Dec (0 < count b (places cs)) → Dec (b ≡ C.at) → (count b (places cs) ≡ 0) ⊎ (i < 4)
          → get_or (patched g I e at c buf now) (block_size g * b + i) 0 ≡ get_or I (block_size g * b + i) 0
      go b i m h (no y) (yes d) f =
          subst (λ (a : ℕ). get_or (patched g I e at c buf now) (B * a + i) 0 ≡ get_or I (B * a + i) 0) (sym d)
          (in_entry buf some_bytes inside now i h ∙ in_time i (subst (λ (a : ℕ). place_of B n s.1 + 9 ≤ B * a + i → B * a + i < place_of B n s.1 + 17 → ⊥) d m))
      go b i m h (no y) (no d) f = elsewhere buf some_bytes inside now b i (omega arith) d h
      go b i m h (yes y) d (inl f) = absurd (omega arith)
      go b i m h (yes y) d (inr f) =
          next_same B I (patched g I e at c buf now) cs (overlaid B c buf cs) (overlaid-places B z cs five good c buf inside) held.shown (cells_shown buf some_bytes inside now) b y i f

  -- ---- not all of it

  -- What L is.
  pub record TornIs (now : ℕ) (L : List ℕ) : Type 0 where
    pub buffer : List ℕ
    pub time : ℕ
    pub long : length buffer ≡ length buf
    pub old_or_new : (time ≡ k) ⊎ (time ≡ now)
    pub image : L ≡ patched g I e at c buffer time
    pub mixture : Mixture (block_size g) I (patched g I e at c buf now) L cs (overlaid (block_size g) c buf cs) (overlaid (block_size g) c buffer cs)

  module _ (now : ℕ) (L : List ℕ) (r : Arrived (block_size g) I (patched g I e at c buf now) L) where
    abbrev J : List ℕ
    J = patched g I e at c buf now

    mix : Mixed (block_size g) I (patched g I e at c buf now) L cs (overlaid (block_size g) c buf cs)
    mix =
        mixed B (omega (arith, size_large g)) I J L r.each cs (overlaid B c buf cs) (overlaid-places B z cs five good c buf inside) good.cells
        (overlaid_good B z cs five good c buf inside).cells held.shown (cells_shown buf some_bytes inside now)

    roomy : c + length buf ≤ (block_size g - 4) * length cs
    roomy = omega (arith, blocks_enough B five z, ap (λ (y : ℕ). (B - 4) * y) good.long)

    vs : List ℕ
    vs = take (length buf) (drop c (stream mix.cells))

    vs_long : length vs ≡ length buf
    unfolding vs
    vs_long = long_mixed B cs mix.cells c buf mix.spots good.cells mix.whole roomy mix.bytes_of

    vs_is : overlaid (block_size g) c vs cs ≡ mix.cells
    unfolding vs
    vs_is = mixed_is B cs mix.cells c buf mix.spots good.cells mix.whole roomy mix.bytes_of

    some_vs : 1 ≤ length vs
    some_vs = omega (arith, vs_long)

    ends_vs : c + length vs ≤ z
    ends_vs = omega (arith, vs_long)

    -- block by block, where the entry's has the time τ
    module _ (τ : ℕ) (entry : (i : ℕ) → i < block_size g → get_or L (block_size g * C.at + i) 0 ≡ get_or (renewed_at I (place_of (block_size g) n s.1) z τ) (block_size g * C.at + i) 0) where
      at_block : (b i : ℕ) → i < block_size g → get_or L (block_size g * b + i) 0 ≡ get_or (patched g I e at c vs τ) (block_size g * b + i) 0
      at_block b i h = go (dec_lt 0 (count b (places cs))) (ℕ_discrete b C.at) (r.each b)
        where
          go : Dec (0 < count b (places cs)) → Dec (b ≡ C.at) → BlockAs (block_size g) I L b ⊎ BlockAs (block_size g) (patched g I e at c buf now) L b
              → get_or L (block_size g * b + i) 0 ≡ get_or (patched g I e at c vs τ) (block_size g * b + i) 0
          go (yes m) d w =
              let es : List Cell = mix.cells in
              shown_near (λ _. ⊥) B (patched g I e at c vs τ) L (cell_pieces es) (cell_pieces es) (alike_refl (λ _. ⊥) B (cell_pieces es))
              (whole_cells B (omega (arith, size_large g)) es mix.whole)
              (subst (λ (ds : List Cell). ShowsAll B (patched g I e at c vs τ) (cell_pieces ds)) vs_is (cells_shown vs some_vs ends_vs τ)) mix.shown b i
              (omega (arith, m, ap (count b) (ats_cells es ∙ mix.spots))) h (λ y. y)
          go (no m) (yes d) w = subst (λ (a : ℕ). get_or L (B * a + i) 0 ≡ get_or (patched g I e at c vs τ) (B * a + i) 0) (sym d) (entry i h ∙ sym (in_entry vs some_vs ends_vs τ i h))
          go (no m) (no d) (inl w) = w i h ∙ sym (elsewhere vs some_vs ends_vs τ b i (omega arith) d h)
          go (no m) (no d) (inr w) = w i h ∙ elsewhere buf some_bytes inside now b i (omega arith) d h ∙ sym (elsewhere vs some_vs ends_vs τ b i (omega arith) d h)

      whole_image : L ≡ patched g I e at c vs τ
      whole_image = ext_get_or 0 L _ (omega (arith, r.long, patched_long vs some_vs ends_vs τ)) (λ j h.
          let a : B * (j / B) + j % B ≡ j = div-add-mod j B in
          ap (λ (y : ℕ). get_or L y 0) (sym a) ∙ at_block (j / B) (j % B) (mod-lt j (omega (arith, size_large g))) ∙ ap (λ (y : ℕ). get_or (patched g I e at c vs τ) y 0) a)

      torn_at : (τ ≡ k) ⊎ (τ ≡ now) → TornIs now L
      torn_at w = record {
        buffer = vs;
        time = τ;
        long = vs_long;
        old_or_new = w;
        image = whole_image;
        mixture = subst (Mixture B I J L cs (overlaid B c buf cs)) (sym vs_is) mix.mixture;
      }

    pub torn_is : TornIs now L
    torn_is = go (r.each C.at)
      where
        go : BlockAs (block_size g) I L C.at ⊎ BlockAs (block_size g) (patched g I e at c buf now) L C.at → TornIs now L
        go (inl w) = torn_at k (λ i h. w i h ∙ ap (λ (X : List ℕ). get_or X (B * C.at + i) 0) (sym renewed_same)) (inl refl)
        go (inr w) = torn_at now (λ i h. w i h ∙ in_entry buf some_bytes inside now i h) (inr refl)
