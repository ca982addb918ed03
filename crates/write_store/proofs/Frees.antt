-- Blocks freed at the end of a chain: the chain that the image holds then, and what else has changed.
use mathlib.Core.Path.{◌≡◌, refl, sym, ap, ◌∙◌, subst}
use mathlib.Core.List.{List, [], ◌∷◌, ◌++◌, append_assoc, append-nil}
use Prim.Native.Nat.{ℕ, suc, ◌+◌, ◌-◌, ◌*◌, ◌≤◌, ◌<◌}
use native.Mathlib.Decide.{ℕ_discrete, dec_lt}
use native.Mathlib.Omega.{arith}
use lib.ListN.{length, get_or}
use Rattle.wire.specs.Be.{bytes}
use Rattle.block.specs.Block.{cell, next, linked, Off, Kept}
use Rattle.block.proofs.Blocks.{kept_refl, kept_trans, kept_less}
use Rattle.model.specs.Tree.{Cell}
use Rattle.model.specs.Render.{cells_at, cell_pieces, count, Shows, ShowsAll, Wiped}
use Rattle.model.specs.Geometry.{area_of, Geo, block_size, data_at, map_bits, bit_end, super_bytes, used_count, Sound}
use Rattle.model.specs.Volume.{All, GoodCell}
use Rattle.model.specs.Calls.{places}
use Rattle.model.proofs.Areas.{few, size_large, block_inside}
use Rattle.model.proofs.Counts.{count_same, count_other, count_none, count_self, count_is}
use Rattle.model.proofs.Frame.{SameBlock}
use Rattle.model.proofs.Owns.{shows_kept}
use Rattle.model.proofs.Lists.{all_left, all_right}
use Rattle.bitmap_block.specs.Bitmap.{mark, freed}
use Rattle.bitmap_block.proofs.Stores.{sound_kept, Aside, aside_data, freed_kept, used_freed, top_freed, mark-freed, mark-freed_other, freed_wiped}
use Rattle.write_store.specs.Write.{cut_after, HeldCells}
use Rattle.chain_store.specs.Chain.{released, chain_freed}
use Rattle.thm_walk.proofs.Walks.{in_area_lem}
use Rattle.wire.proofs.Picks.{pick_true, pick_false}
use borrow.Author.Tests.{ne_eqb, lt-leb}
use Rattle.write_store.proofs.Cells.{count_places, count_cell, count_no_cell, block_long, tail_shows, back_shows, relinked, count_last}
use Rattle.write_store.proofs.Grows.{link_kept, link_mark, link_top}
use Rattle.write_store.proofs.Hops.{next-cell}

-- ---- a chain that is held still

-- its blocks are as they were, and marked
held_kept : (g : Geo) (I J : List ℕ) (cs : List Cell) → HeldCells g I cs → ((b : ℕ) → 1 ≤ count b (places cs) → SameBlock (block_size g) I J b)
    → ((i : ℕ) → 1 ≤ count i (places cs) → mark g J (i - data_at g) ≡ 1) → HeldCells g J cs
unfolding cell_pieces
held_kept g I J cs h s m =
    let B : ℕ = block_size g in
    record {
      shown = subst (λ (l : List Cell). ShowsAll B J (cell_pieces l)) (append-nil cs)
          (tail_shows B I J (omega (arith, size_large g)) cs [] [] h.whole s refl (subst (λ (l : List Cell). ShowsAll B I (cell_pieces l)) (sym (append-nil cs)) h.shown) tt);
      whole = h.whole;
      once = h.once;
      range = h.range;
      has_bit = h.has_bit;
      marked = m;
    }

-- the rest of it
held_back : (g : Geo) (I : List ℕ) (xs ys : List Cell) → HeldCells g I (xs ++ ys) → HeldCells g I ys
held_back g I xs ys h =
    record {
      shown = back_shows (block_size g) I xs ys h.shown;
      whole = all_right (GoodCell (block_size g)) xs ys h.whole;
      once = λ i. omega (arith, h.once i, count_places i xs ys);
      range = λ i q. h.range i (omega (arith, count_places i xs ys));
      has_bit = λ i q. h.has_bit i (omega (arith, count_places i xs ys));
      marked = λ i q. h.marked i (omega (arith, count_places i xs ys));
    }

-- ---- blocks freed

freed-none : (g : Geo) (I : List ℕ) (a : ℕ) → chain_freed g I 0 a ≡ I
unfolding chain_freed
freed-none g I a = refl

-- a block of the data that has a bit, where the count is not 0
freed-more : (g : Geo) (I : List ℕ) (a k : ℕ) → (data_at g ≤ a) × (a < bit_end g) → 0 < used_count g I
    → chain_freed g I (suc k) a ≡ chain_freed g (freed g I (a - data_at g)) k (next (block_size g) I a)
unfolding chain_freed released
freed-more g I a k h u =
    pick_true _ _ (in_area_lem (area_of g) I a (h.0, omega (arith, h.1)))
    ∙ ap (λ (J : List ℕ). chain_freed g J k (next (block_size g) I a)) (pick_false _ _ (rw (ne_eqb (used_count g I) 0 (λ z. omega arith), lt-leb (bit_end g) a h.1)))

-- What has changed: the blocks ys are wiped, their marks are clear, and the used count is less.
pub record Dropped (g : Geo) (I J : List ℕ) (ys : List Cell) : Type 0 where
  pub kept : Kept (block_size g) (λ b o. Aside g b o × (count b (places ys) ≡ 0)) I J
  pub wiped : (b : ℕ) → 1 ≤ count b (places ys) → Wiped (block_size g) J b
  pub marks : (x : ℕ) → x < map_bits g → mark g J x + count (data_at g + x) (places ys) ≡ mark g I x
  pub top : Shows I (block_size g * g.K) (super_bytes g (used_count g I)) → Shows J (block_size g * g.K) (super_bytes g (used_count g I - length ys))

module _ (g : Geo) (I : List ℕ) (s : Sound g (length I)) (y : Cell) (ys : List Cell) (h : HeldCells g I (y ∷ ys)) where
  there : 1 ≤ count y.at (places (y ∷ ys))
  there = omega (arith, count_cell y.at y ys, count_self y.at)

  here : (data_at g ≤ y.at) × (y.at < bit_end g)
  here = let r = h.range y.at there in (r.0, omega (arith, r.1, h.has_bit y.at there))

  F : List ℕ
  F = freed g I (y.at - data_at g)

  in_data : data_at g + (y.at - data_at g) < bit_end g
  in_data = omega (arith, here.0, here.1)

  index : data_at g + (y.at - data_at g) ≡ y.at
  index = omega (arith, here.0)

  free_kept : Kept (block_size g) (λ b o. Aside g b o × (b ≡ y.at → ⊥)) I F
  unfolding F
  free_kept = kept_less (λ b o q. (q.0, λ e. q.1 (e ∙ index))) (freed_kept g I s (y.at - data_at g) in_data)

  free_wiped : Wiped (block_size g) F y.at
  unfolding F
  free_wiped = subst (Wiped (block_size g) (freed g I (y.at - data_at g))) index (freed_wiped g I s (y.at - data_at g) in_data)

  free_sound : Sound g (length F)
  free_sound = sound_kept g I s _ F free_kept

  free_used : used_count g I ≤ g.n → used_count g F ≡ used_count g I - 1
  unfolding F
  free_used u = used_freed g I s (y.at - data_at g) in_data (omega (arith, few g (length I) s))

  free_marks : (z : ℕ) → z < map_bits g → mark g F z + count (data_at g + z) (y.at ∷ []) ≡ mark g I z
  unfolding F
  free_marks z q = go (ℕ_discrete z (y.at - data_at g))
    where
      was : mark g I (y.at - data_at g) ≡ 1
      was = h.marked y.at (omega (arith, count_cell y.at y ys, count_self y.at))

      go : Dec (z ≡ y.at - data_at g) → mark g (freed g I (y.at - data_at g)) z + count (data_at g + z) (y.at ∷ []) ≡ mark g I z
      go (yes e) =
          omega (
            arith,
            ap (mark g (freed g I (y.at - data_at g))) e,
            mark-freed g I s (y.at - data_at g) in_data,
            ap (mark g I) e,
            was,
            count_same (data_at g + z) y.at [] (omega (arith, here.0)),
            count_none (data_at g + z),
          )
      go (no e) =
          omega (arith, mark-freed_other g I s (y.at - data_at g) in_data z q e, count_other (data_at g + z) y.at [] (λ w. e (omega arith)), count_none (data_at g + z))

  -- the blocks after it are others
  apart : (b : ℕ) → 1 ≤ count b (places ys) → b ≡ y.at → ⊥
  apart b q e = omega (arith, q, h.once b, count_cell b y ys, count_same b y.at [] e)

  -- and held still
  free_held : HeldCells g F ys
  unfolding cell
  free_held = held_kept g I F ys (held_back g I (y ∷ []) ys h)
      (λ b q i p. free_kept.at b i (aside_data g (length I) s b i (h.range b (omega (arith, count_cell b y ys))).0, apart b q) p)
      (λ i q. marked i q)
    where
      marked : (i : ℕ) → 1 ≤ count i (places ys) → mark g F (i - data_at g) ≡ 1
      marked i q =
          let r = h.range i (omega (arith, count_cell i y ys)) in
          let z : data_at g + (i - data_at g) ≡ i = omega (arith, r.0) in
          omega (
            arith,
            free_marks (i - data_at g) (omega (arith, r.0, h.has_bit i (omega (arith, count_cell i y ys)))),
            ap (λ (w : ℕ). count w (y.at ∷ [])) z,
            h.marked i (omega (arith, count_cell i y ys)),
            h.once i,
            count_cell i y ys,
          )

  first : 0 < used_count g I → chain_freed g I (suc (length ys)) (cells_at (y ∷ ys)) ≡ chain_freed g F (length ys) (cells_at ys)
  unfolding F cells_at
  first u =
      freed-more g I y.at (length ys) here u
      ∙ ap (chain_freed g (freed g I (y.at - data_at g)) (length ys)) (unfold cells_at in next-cell g I s y ys h.range h.shown)

  -- the block itself stays wiped while the others are given back
  dropped_wiped : (J : List ℕ) → Dropped g F J ys → (b : ℕ) → 1 ≤ count b (places (y ∷ ys)) → Dec (0 < count b (places ys)) → Wiped (block_size g) J b
  unfolding cell
  dropped_wiped J r b q (yes m) = r.wiped b m
  dropped_wiped J r b q (no m) =
      let e : b ≡ y.at = count_is b y.at (omega (arith, q, count_cell b y ys)) in
      λ i p.
      r.kept.at b i (aside_data g (length I) s b i (omega (arith, here.0)), omega arith) p
      ∙ ap (λ (z : ℕ). get_or F (block_size g * z + i) 0) e ∙ free_wiped i p

  dropped_step : (J : List ℕ) → suc (length ys) ≤ used_count g I → used_count g I ≤ g.n → Dropped g F J ys → Dropped g I J (y ∷ ys)
  unfolding F
  dropped_step J l u r =
      record {
        kept = kept_trans (kept_less (λ b o q. (q.0, λ e. omega (arith, q.1, count_cell b y ys, count_same b y.at [] e))) free_kept)
            (kept_less (λ b o q. (q.0, omega (arith, q.1, count_cell b y ys))) r.kept);
        wiped = λ b q. dropped_wiped J r b q (dec_lt 0 (count b (places ys)));
        marks = λ z q. omega (arith, r.marks z q, free_marks z q, count_cell (data_at g + z) y ys);
        top = λ t.
            let a : Shows F (block_size g * g.K) (super_bytes g (used_count g F))
            = subst (λ (z : ℕ). Shows F (block_size g * g.K) (super_bytes g z)) (sym (free_used u)) (top_freed g I s (y.at - data_at g) in_data (used_count g I) t) in
            let e : used_count g F - length ys ≡ used_count g I - suc (length ys) = omega (arith, free_used u) in
            subst (λ (z : ℕ). Shows J (block_size g * g.K) (super_bytes g z)) e (r.top a);
      }

module _ (g : Geo) where
  dropped_is : (ys : List Cell) (I : List ℕ) → Sound g (length I) → HeldCells g I ys → length ys ≤ used_count g I → used_count g I ≤ g.n → Dropped g I (chain_freed g I (length ys) (cells_at ys)) ys
  dropped_is [] I s h l u =
      subst (λ (L : List ℕ). Dropped g I L []) (sym (freed-none g I (cells_at [])))
      (record {
        kept = kept_refl I;
        wiped = λ b q. absurd (omega (arith, count_no_cell b));
        marks = λ x q. omega (arith, count_no_cell (data_at g + x));
        top = λ t. let e : used_count g I ≡ used_count g I - 0 = omega arith in subst (λ (z : ℕ). Shows I (block_size g * g.K) (super_bytes g z)) e t;
      })
  dropped_is (y ∷ ys) I s h l u =
      let ih = dropped_is ys (F g I s y ys h) (free_sound g I s y ys h) (free_held g I s y ys h) (omega (arith, free_used g I s y ys h u)) (omega (arith, free_used g I s y ys h u)) in
      subst (λ (L : List ℕ). Dropped g I L (y ∷ ys)) (sym (first g I s y ys h (omega arith))) (dropped_step g I s y ys h _ l u ih)

-- ---- a chain cut after block c

module _ (g : Geo) (I : List ℕ) (s : Sound g (length I)) (xs : List Cell) (c : Cell) (ys : List Cell) (h : HeldCells g I (xs ++ (c ∷ ys))) (l : length ys ≤ used_count g I) (u : used_count g I ≤ g.n) where
  all : (i : ℕ) → count i (places (xs ++ (c ∷ ys))) ≡ count i (places xs) + (count i (c.at ∷ []) + count i (places ys))
  all i = count_places i xs (c ∷ ys) ∙ omega (arith, count_cell i c ys)

  kept_all : (i : ℕ) → count i (places (xs ++ (c ∷ []))) ≡ count i (places xs) + count i (c.at ∷ [])
  kept_all i = count_last i xs c

  last_in : (data_at g ≤ c.at) × (c.at < g.n)
  last_in = h.range c.at (omega (arith, all c.at, count_self c.at))

  cells : HeldCells g I (c ∷ ys)
  cells = held_back g I xs (c ∷ ys) h

  D : List ℕ
  D = chain_freed g I (length ys) (cells_at ys)

  D-is : Dropped g I D ys
  unfolding D
  D-is = dropped_is g ys I s (held_back g I (c ∷ []) ys cells) l u

  D-sound : Sound g (length D)
  D-sound = sound_kept g I s _ D D-is.kept

  cut_at : cut_after g I c.at (length ys) ≡ linked (block_size g) D c.at 0
  unfolding cut_after D
  cut_at = ap (λ (a : ℕ). linked (block_size g) (chain_freed g I (length ys) a) c.at 0) (next-cell g I s c ys cells.range cells.shown)

  J : List ℕ
  J = linked (block_size g) D c.at 0

  J-kept : Kept (block_size g) (λ b o. Aside g b o × (Off c.at 0 4 b o × (count b (places ys) ≡ 0))) I J
  unfolding J
  J-kept = kept_trans (kept_less (λ b o p. (p.0, p.1.1)) D-is.kept) (kept_less (λ b o p. p.1.0) (link_kept g D D-sound c.at last_in.0 last_in.1 0))

  J-marks : (x : ℕ) → x < map_bits g → mark g J x + count (data_at g + x) (places ys) ≡ mark g I x
  unfolding J
  J-marks x q = omega (arith, link_mark g D D-sound c.at last_in.0 last_in.1 0 x q, D-is.marks x q)

  J-top : Shows I (block_size g * g.K) (super_bytes g (used_count g I)) → Shows J (block_size g * g.K) (super_bytes g (used_count g I - length ys))
  unfolding J
  J-top t = link_top g D D-sound c.at last_in.0 last_in.1 0 (used_count g I - length ys) (D-is.top t)

  front_same : (b : ℕ) → 1 ≤ count b (places xs) → SameBlock (block_size g) I J b
  unfolding cell
  front_same b q i p =
      J-kept.at b i (
        aside_data g (length I) s b i (h.range b (omega (arith, all b))).0,
        (λ e _ _. omega (arith, h.once b, all b, count_same b c.at [] e), omega (arith, h.once b, all b)),
      ) p

  J-wiped : (b : ℕ) → 1 ≤ count b (places ys) → Wiped (block_size g) J b
  unfolding J cell
  J-wiped b q i p =
      (link_kept g D D-sound c.at last_in.0 last_in.1 0).at b i (λ e _ _. omega (arith, q, h.once b, all b, count_same b c.at [] e)) p ∙ D-is.wiped b q i p

  last_shown : ShowsAll (block_size g) J (cell_pieces (c ∷ []))
  unfolding cell_pieces cells_at J
  last_shown =
      let B : ℕ = block_size g in (
        relinked B D c.at (cells_at ys) 0 c.body (omega (arith, size_large g)) (block_inside g (length D) D-sound c.at last_in.1)
            (shows_kept B _ I D c.at (bytes 4 (cells_at ys) ++ c.body) D-is.kept (λ o _. (aside_data g (length I) s c.at o last_in.0, omega (arith, h.once c.at, all c.at, count_self c.at)))
            (omega (arith, block_long B (omega (arith, size_large g)) c (cells_at ys) cells.whole.0)) cells.shown.0),
        tt,
      )

  J-held : HeldCells g J (xs ++ (c ∷ []))
  unfolding cells_at
  J-held =
      let B : ℕ = block_size g in
      record {
        shown = tail_shows B I J (omega (arith, size_large g)) xs (c ∷ ys) (c ∷ []) (all_left (GoodCell B) xs (c ∷ ys) h.whole) front_same refl h.shown last_shown;
        whole = all_left (GoodCell B) (xs ++ (c ∷ [])) ys (subst (All (GoodCell B)) (sym (append_assoc xs (c ∷ []) ys)) h.whole);
        once = λ i. omega (arith, h.once i, all i, kept_all i);
        range = λ i q. h.range i (omega (arith, all i, kept_all i));
        has_bit = λ i q. h.has_bit i (omega (arith, all i, kept_all i));
        marked = λ i q. marked i q;
      }
    where
      marked : (i : ℕ) → 1 ≤ count i (places (xs ++ (c ∷ []))) → mark g J (i - data_at g) ≡ 1
      marked i q =
          let r = h.range i (omega (arith, all i, kept_all i)) in
          let z : data_at g + (i - data_at g) ≡ i = omega (arith, r.0) in
          omega (
            arith,
            J-marks (i - data_at g) (omega (arith, r.0, h.has_bit i (omega (arith, all i, kept_all i)))),
            ap (λ (w : ℕ). count w (places ys)) z,
            h.marked i (omega (arith, all i, kept_all i)),
            h.once i,
            all i,
            kept_all i,
          )

  -- The chain ends with block c,
  pub cut_held : HeldCells g (cut_after g I c.at (length ys)) (xs ++ (c ∷ []))
  unfolding J
  cut_held = subst (λ (L : List ℕ). HeldCells g L (xs ++ (c ∷ []))) (sym cut_at) J-held

  -- and besides its link those after it have changed, their marks, and the used count.
  pub cut_kept : Kept (block_size g) (λ b o. Aside g b o × (Off c.at 0 4 b o × (count b (places ys) ≡ 0))) I (cut_after g I c.at (length ys))
  unfolding J
  cut_kept = subst (Kept (block_size g) (λ b o. Aside g b o × (Off c.at 0 4 b o × (count b (places ys) ≡ 0))) I) (sym cut_at) J-kept

  -- Those after it are wiped.
  pub cut_wiped : (b : ℕ) → 1 ≤ count b (places ys) → Wiped (block_size g) (cut_after g I c.at (length ys)) b
  unfolding J
  cut_wiped b q = subst (λ (L : List ℕ). Wiped (block_size g) L b) (sym cut_at) (J-wiped b q)

  pub cut_marks : (x : ℕ) → x < map_bits g → mark g (cut_after g I c.at (length ys)) x + count (data_at g + x) (places ys) ≡ mark g I x
  unfolding J
  cut_marks x q = subst (λ (L : List ℕ). mark g L x + count (data_at g + x) (places ys) ≡ mark g I x) (sym cut_at) (J-marks x q)

  pub cut_top : Shows I (block_size g * g.K) (super_bytes g (used_count g I)) → Shows (cut_after g I c.at (length ys)) (block_size g * g.K) (super_bytes g (used_count g I - length ys))
  unfolding J
  cut_top t = subst (λ (L : List ℕ). Shows L (block_size g * g.K) (super_bytes g (used_count g I - length ys))) (sym cut_at) (J-top t)
