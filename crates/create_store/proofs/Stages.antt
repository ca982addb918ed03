-- The image between the stores of a call on one directory: which pieces the directory has by then, which blocks are free, and that
-- nothing else has changed. A block taken is a new piece of zeros, a store in a block changes its piece, and the order of pieces is free.
use mathlib.Core.Path.{◌≡◌, refl, sym, ap, ◌∙◌, subst}
use mathlib.Core.List.{List, [], ◌∷◌, ◌++◌}
use Prim.Native.Nat.{ℕ, ◌+◌, ◌-◌, ◌*◌, ◌≤◌, ◌<◌}
use native.Mathlib.Decide.{dec_lt, ℕ_discrete}
use native.Mathlib.Omega.{arith}
use lib.ListN.{length, get_or, length-replicate, get_or-replicate}
use Rattle.wire.specs.Be.{splice, zeros}
use Rattle.wire.proofs.Numbers.{length-splice, splice_before, splice_in, splice-after}
use Rattle.block.specs.Block.{cell, Off, Kept}
use Rattle.block.proofs.Blocks.{kept_refl, kept_trans, kept_less, splice_kept}
use Rattle.model.specs.Tree.{Tree}
use Rattle.model.specs.Render.{Piece, ats, count, blocks, render, Shows, ShowsAll}
use Rattle.model.specs.Geometry.{Geo, block_size, data_at, map_bits, bit_end, super_bytes, used_count, Sound}
use Rattle.model.specs.Volume.{All, GoodTree, Volume}
use Rattle.model.specs.Calls.{free_blocks}
use Rattle.model.specs.Render.{blocks_at}
use Rattle.model.proofs.Areas.{area, few, block_inside, laid_in}
use Rattle.model.proofs.Commit.{Commit}
use Rattle.model.proofs.Counts.{count_same, count_other, count_cons, count_append, ats-append, length-ats}
use Rattle.model.proofs.Demand.{whole_super}
use Rattle.model.proofs.Frame.{SameBlock, shows_append, shows_left, shows_right, shows_frame}
use Rattle.model.proofs.Full.{Whole}
use Rattle.model.proofs.OneVolume.{used_is, used_set}
use Rattle.model.proofs.Owns.{shows_kept}
use Rattle.model.proofs.Lists.{all_append, all_left, all_right}
use Rattle.bitmap_block.specs.Bitmap.{mark, clears, taken}
use Rattle.bitmap_block.proofs.Stores.{mark_is, Aside, aside_data, sound_kept, used_kept, mark_kept, clears_kept, index_in, taken_kept, used_taken, top_taken, mark-taken, mark-taken_other, cell-taken, first_in, first_clear, clears-taken, volume_clears, volume_room}

-- a block of zeros
abbrev pub zero_piece : ℕ → ℕ → Piece
zero_piece B a = record { at = a; full = zeros B }

-- a piece with vs stored at offset o
abbrev pub stored : Piece → ℕ → List ℕ → Piece
stored x o vs = record { at = x.at; full = splice x.full o vs }

-- a block that is kept
pub kept_block : (B : ℕ) (P : ℕ → ℕ → Type 0) (I J : List ℕ) → Kept B P I J → (b : ℕ) → ((o : ℕ) → P b o) → SameBlock B I J b
unfolding cell
kept_block B P I J k b f i h = k.at b i (f i) h

-- what a block shows after a store in it
shows_splice : (I : List ℕ) (k o : ℕ) (l vs : List ℕ) → o + length vs ≤ length l → k + length l ≤ length I → Shows I k l → Shows (splice I (k + o) vs) k (splice l o vs)
shows_splice I k o l vs h m s i q = go (dec_lt i o) (dec_lt i (o + length vs))
  where
    fits : k + o + length vs ≤ length I
    fits = omega arith

    i_in : i < length l
    i_in = omega (arith, length-splice l o vs h)

    go : Dec (i < o) → Dec (i < o + length vs) → get_or (splice I (k + o) vs) (k + i) 0 ≡ get_or (splice l o vs) i 0
    go (yes a) b = splice_before I (k + o) vs fits (k + i) (omega arith) ∙ s i i_in ∙ sym (splice_before l o vs h i a)
    go (no a) (yes b) =
        let j : ℕ = i - o in
        let e : k + i ≡ k + o + j = omega arith in
        let f : i ≡ o + j = omega arith in
        ap (λ (z : ℕ). get_or (splice I (k + o) vs) z 0) e ∙ splice_in I (k + o) vs fits j (omega arith)
        ∙ sym (ap (λ (z : ℕ). get_or (splice l o vs) z 0) f ∙ splice_in l o vs h j (omega arith))
    go (no a) (no b) = splice-after I (k + o) vs fits (k + i) (omega arith) ∙ s i i_in ∙ sym (splice-after l o vs h i (omega arith))

-- ---- a stage

-- I is the image at the start, of the tree t, and us are the pieces of the directory then. J is the image now, xs the directory's pieces
-- and `free` the blocks that can be taken.
module _ (g : Geo) (I : List ℕ) (d : ℕ) (t : Tree d) (us : List Piece) where
  pub record Stage (J : List ℕ) (xs : List Piece) (free : List ℕ) : Type 0 where
    pub kept : Kept (block_size g) (λ b o. Aside g b o × (count b (ats xs) ≡ 0)) I J
    pub moved : used_count g J + length (ats us) ≡ data_at g + length (blocks (block_size g) d t) + length (ats xs)
    pub small : used_count g J + length free ≤ g.n
    pub top : Shows J (block_size g * g.K) (super_bytes g (used_count g J))
    pub marks : (x : ℕ) → x < map_bits g → mark g J x + count (data_at g + x) (ats us) ≡ mark g I x + count (data_at g + x) (ats xs)
    pub apart : (i : ℕ) → count i (blocks (block_size g) d t) + count i (ats xs) ≤ 1 + count i (ats us)
    pub inside : (i : ℕ) → 1 ≤ count i (ats xs) → (data_at g ≤ i) × (i < bit_end g)
    pub whole : All (Whole (block_size g)) xs
    pub shown : ShowsAll (block_size g) J xs
    pub clear : clears g J ≡ free

  module _ (v : Volume g I d t) (part : (i : ℕ) → count i (ats us) ≤ count i (blocks (block_size g) d t)) where
    -- before the first store
    pub stage_start : All (Whole (block_size g)) us → ShowsAll (block_size g) I us → Stage I us (free_blocks g d t)
    stage_start w s = record {
      kept = kept_refl I;
      moved = ap (λ (z : ℕ). z + length (ats us)) (used_is g I d t v);
      small = omega (arith, (volume_room g I d t v (length (free_blocks g d t)) (omega arith)).count);
      top = subst (λ (z : ℕ). Shows I (block_size g * g.K) (super_bytes g z)) (sym (used_set g I d t v)) v.laid.top;
      marks = λ x h. refl;
      apart = λ i. omega (arith, v.laid.once i);
      inside = λ i h. laid_in g I d t _ v.laid i (omega (arith, part i));
      whole = w;
      shown = s;
      clear = volume_clears g I d t v;
    }

    -- a directory's piece once at most
    stage_once : (J : List ℕ) (xs : List Piece) (free : List ℕ) → Stage J xs free → (i : ℕ) → count i (ats xs) ≤ 1
    stage_once J xs free s i = omega (arith, s.apart i, part i)

    module _ (J : List ℕ) (xs : List Piece) where
      stage_sound : (free : List ℕ) → Stage J xs free → Sound g (length J)
      stage_sound free s = sound_kept g I v.laid.sound _ J s.kept

      -- ---- a block taken

      module _ (x : ℕ) (free : List ℕ) (s : Stage J xs ((data_at g + x) ∷ free)) where
        sound : Sound g (length J)
        sound = stage_sound ((data_at g + x) ∷ free) s

        below : data_at g + x < bit_end g
        below = first_in g J sound x free s.clear

        bit_there : x < map_bits g
        bit_there = index_in g (length J) sound x below

        is_clear : mark g J x ≡ 0
        is_clear = first_clear g J sound x free s.clear

        was : mark g I x ≡ count (data_at g + x) (blocks (block_size g) d t)
        was = mark_is g I x ∙ v.marked x bit_there

        not_yet : count (data_at g + x) (ats xs) ≡ 0
        not_yet = omega (arith, s.marks x bit_there, is_clear, was, part (data_at g + x))

        one_more : used_count g (taken g J x) ≡ used_count g J + 1
        one_more = used_taken g J sound x below (omega (arith, s.small, few g (length J) sound))

        other : (b : ℕ) → count b ((data_at g + x) ∷ ats xs) ≡ 0 → b ≡ data_at g + x → ⊥
        other b h e = omega (arith, count_same b (data_at g + x) (ats xs) e)

        zero_shown : Shows (taken g J x) (block_size g * (data_at g + x)) (zeros (block_size g))
        unfolding cell
        zero_shown i h =
            let k : i < block_size g = omega (arith, length-replicate {A = ℕ} (block_size g) 0) in
            cell-taken g J sound x below i k ∙ sym (get_or-replicate (block_size g) i 0 0 k)

        pub stage_taken : Stage (taken g J x) (zero_piece (block_size g) (data_at g + x) ∷ xs) free
        unfolding ats
        stage_taken = record {
          kept = kept_trans (kept_less (λ b o p. (p.0, omega (arith, p.1, count_cons b (data_at g + x) (ats xs)))) s.kept)
              (kept_less (λ b o p. (p.0, other b p.1)) (taken_kept g J sound x below));
          moved = omega (arith, s.moved, one_more);
          small = omega (arith, s.small, one_more);
          top = subst (λ (z : ℕ). Shows (taken g J x) (block_size g * g.K) (super_bytes g z)) (sym one_more) (top_taken g J sound x below (used_count g J) s.top);
          marks = λ y h. at_mark y h (ℕ_discrete y x);
          apart = λ i. at_block i (ℕ_discrete i (data_at g + x));
          inside = λ i h. in_data i h (ℕ_discrete i (data_at g + x));
          whole = (length-replicate {A = ℕ} (block_size g) 0, s.whole);
          shown = (zero_shown, shows_frame (block_size g) J (taken g J x) xs s.whole same_block s.shown);
          clear = clears-taken g J sound x free s.clear;
        }
          where
            at_mark : (y : ℕ) → y < map_bits g → Dec (y ≡ x)
                → mark g (taken g J x) y + count (data_at g + y) (ats us) ≡ mark g I y + count (data_at g + y) ((data_at g + x) ∷ ats xs)
            at_mark y h (yes e) =
                let m : mark g (taken g J x) y ≡ 1 = ap (mark g (taken g J x)) e ∙ mark-taken g J sound x below in
                let n : mark g J y ≡ 0 = ap (mark g J) e ∙ is_clear in
                omega (arith, s.marks y h, m, n, count_same (data_at g + y) (data_at g + x) (ats xs) (ap (λ (z : ℕ). data_at g + z) e))
            at_mark y h (no e) =
                omega (arith, s.marks y h, mark-taken_other g J sound x below y h e, count_other (data_at g + y) (data_at g + x) (ats xs) (omega arith))

            at_block : (i : ℕ) → Dec (i ≡ data_at g + x) → count i (blocks (block_size g) d t) + count i ((data_at g + x) ∷ ats xs) ≤ 1 + count i (ats us)
            at_block i (yes e) =
                let a : count i (blocks (block_size g) d t) ≡ count (data_at g + x) (blocks (block_size g) d t) = ap (λ (j : ℕ). count j (blocks (block_size g) d t)) e in
                let b : count i (ats us) ≡ count (data_at g + x) (ats us) = ap (λ (j : ℕ). count j (ats us)) e in
                let c : count i (ats xs) ≡ count (data_at g + x) (ats xs) = ap (λ (j : ℕ). count j (ats xs)) e in
                omega (arith, a, b, c, s.marks x bit_there, is_clear, was, count_same i (data_at g + x) (ats xs) e)
            at_block i (no e) = omega (arith, s.apart i, count_other i (data_at g + x) (ats xs) e)

            in_data : (i : ℕ) → 1 ≤ count i ((data_at g + x) ∷ ats xs) → Dec (i ≡ data_at g + x) → (data_at g ≤ i) × (i < bit_end g)
            in_data i h (yes e) = (omega arith, omega (arith, below))
            in_data i h (no e) = s.inside i (omega (arith, count_other i (data_at g + x) (ats xs) e))

            same_block : (b : ℕ) → 1 ≤ count b (ats xs) → SameBlock (block_size g) J (taken g J x) b
            same_block b h =
                let e : b ≡ data_at g + x → ⊥ = λ z. omega (arith, h, ap (λ (j : ℕ). count j (ats xs)) z, not_yet) in
                kept_block (block_size g) _ J (taken g J x) (taken_kept g J sound x below) b (λ o. (aside_data g (length J) sound b o (s.inside b h).0, e))
            -- ---- a store in one of its blocks

    module _ (J : List ℕ) (ws : List Piece) (y : Piece) (cs : List Piece) (free : List ℕ) (s : Stage J (ws ++ (y ∷ cs)) free) where
      sound_of : Sound g (length J)
      sound_of = stage_sound J (ws ++ (y ∷ cs)) free s

      split : (i : ℕ) → count i (ats (ws ++ (y ∷ cs))) ≡ count i (ats ws) + (count i (y.at ∷ []) + count i (ats cs))
      unfolding ats
      split i = ap (count i) (ats-append ws (y ∷ cs)) ∙ omega (arith, count_append i (ats ws) (y.at ∷ ats cs), count_cons i y.at (ats cs))

      among : 1 ≤ count y.at (ats (ws ++ (y ∷ cs)))
      among = omega (arith, split y.at, count_same y.at y.at [] refl)

      in_area_lem : (data_at g ≤ y.at) × (y.at < g.n)
      in_area_lem = let r = s.inside y.at among in (r.0, omega (arith, r.1))

      block_there : block_size g * y.at + block_size g ≤ length J
      block_there = block_inside g (length J) sound_of y.at in_area_lem.1

      y_whole : length y.full ≡ block_size g
      y_whole = (all_right (Whole (block_size g)) ws (y ∷ cs) s.whole).0

      module _ (o : ℕ) (vs : List ℕ) (h : o + length vs ≤ block_size g) where
        new : List ℕ
        new = splice J (block_size g * y.at + o) vs

        new_kept : Kept (block_size g) (Off y.at o (length vs)) J new
        unfolding new
        new_kept = splice_kept (block_size g) J y.at o vs h block_there

        same_ats : ats (ws ++ (stored y o vs ∷ cs)) ≡ ats (ws ++ (y ∷ cs))
        unfolding ats
        same_ats = ats-append ws (stored y o vs ∷ cs) ∙ sym (ats-append ws (y ∷ cs))

        -- blocks below the data are kept
        low_kept : (b p : ℕ) → b < data_at g → Off y.at o (length vs) b p
        low_kept b p l e _ _ = omega (arith, in_area_lem.0)

        same_used : used_count g new ≡ used_count g J
        same_used = used_kept g J sound_of _ new new_kept (λ p _ _. low_kept g.K p (omega (arith, (area g (length J) sound_of).maps)))

        pub stage_stored : Stage (splice J (block_size g * y.at + o) vs) (ws ++ (stored y o vs ∷ cs)) free
        unfolding new
        stage_stored =
            let keep : (x : ℕ) → x < map_bits g → mark g new x ≡ mark g J x = mark_kept g J sound_of _ new new_kept (λ b p _ l. low_kept b p l) in
            record {
              kept = kept_trans (kept_less (λ b p q. (q.0, ap (count b) (sym same_ats) ∙ q.1)) s.kept) (kept_less (λ b p q e _ _. hit b q.1 e) new_kept);
              moved = omega (arith, s.moved, same_used, ap length same_ats);
              small = omega (arith, s.small, same_used);
              top = subst (λ (z : ℕ). Shows new (block_size g * g.K) (super_bytes g z)) (sym same_used)
                  (shows_kept (block_size g) _ J new g.K (super_bytes g (used_count g J)) new_kept (λ p _. low_kept g.K p (omega (arith, (area g (length J) sound_of).maps))) (omega (arith, whole_super g (used_count g J))) s.top);
              marks = λ x l. omega (arith, s.marks x l, keep x l, ap (count (data_at g + x)) same_ats);
              apart = λ i. omega (arith, s.apart i, ap (count i) same_ats);
              inside = λ i l. s.inside i (omega (arith, ap (count i) same_ats));
              whole = all_append (Whole (block_size g)) ws _ (all_left (Whole (block_size g)) ws (y ∷ cs) s.whole) (length-splice y.full o vs (omega (arith, y_whole)) ∙ y_whole, (all_right (Whole (block_size g)) ws (y ∷ cs) s.whole).1);
              shown = shows_append (block_size g) new ws _ (shows_frame (block_size g) J new ws (all_left (Whole (block_size g)) ws (y ∷ cs) s.whole) (λ b l. same_block b (not_here b (omega arith))) (shows_left (block_size g) J ws (y ∷ cs) s.shown)) (
                shows_splice J (block_size g * y.at) o y.full vs (omega (arith, y_whole)) (omega (arith, block_there, y_whole)) (shows_right (block_size g) J ws (y ∷ cs) s.shown).0,
                shows_frame (block_size g) J new cs (all_right (Whole (block_size g)) ws (y ∷ cs) s.whole).1 (λ b l. same_block b (not_here b (omega arith))) (shows_right (block_size g) J ws (y ∷ cs) s.shown).1,
              );
              clear = clears_kept g J sound_of _ new new_kept (λ b p _ l. low_kept b p l) ∙ s.clear;
            }
          where
            hit : (b : ℕ) → count b (ats (ws ++ (stored y o vs ∷ cs))) ≡ 0 → b ≡ y.at → ⊥
            hit b z e = omega (arith, z, ap (count b) same_ats, split b, count_same b y.at [] e)

            not_here : (b : ℕ) → 1 ≤ count b (ats ws) + count b (ats cs) → b ≡ y.at → ⊥
            not_here b l e = omega (arith, l, split b, count_same b y.at [] e, stage_once J (ws ++ (y ∷ cs)) free s b)

            same_block : (b : ℕ) → (b ≡ y.at → ⊥) → SameBlock (block_size g) J new b
            same_block b z = kept_block (block_size g) _ J new new_kept b (λ o e _ _. z e)

    -- ---- the order of the pieces

    -- the first piece goes to another place
    pub stage_move : (J : List ℕ) (z : Piece) (xs ys : List Piece) (free : List ℕ) → Stage J (z ∷ (xs ++ ys)) free → Stage J (xs ++ (z ∷ ys)) free
    unfolding ats
    stage_move J z xs ys free s =
        let same : (i : ℕ) → count i (ats (xs ++ (z ∷ ys))) ≡ count i (z.at ∷ ats (xs ++ ys))
        = λ i. ap (count i) (ats-append xs (z ∷ ys)) ∙ omega (arith, count_append i (ats xs) (z.at ∷ ats ys), count_cons i z.at (ats ys), count_cons i z.at (ats (xs ++ ys)), ap (count i) (ats-append xs ys), count_append i (ats xs) (ats ys)) in
        let long : length (ats (xs ++ (z ∷ ys))) ≡ length (z.at ∷ ats (xs ++ ys)) = omega (arith, length-ats xs (z ∷ ys), length-ats xs ys) in
        let B : ℕ = block_size g in
        record {
          kept = kept_less (λ b o p. (p.0, sym (same b) ∙ p.1)) s.kept;
          moved = omega (arith, s.moved, long);
          small = s.small;
          top = s.top;
          marks = λ x h. omega (arith, s.marks x h, same (data_at g + x));
          apart = λ i. omega (arith, s.apart i, same i);
          inside = λ i h. s.inside i (omega (arith, same i));
          whole = all_append (Whole B) xs (z ∷ ys) (all_left (Whole B) xs ys s.whole.1) (s.whole.0, all_right (Whole B) xs ys s.whole.1);
          shown = shows_append B J xs (z ∷ ys) (shows_left B J xs ys s.shown.1) (s.shown.0, shows_right B J xs ys s.shown.1);
          clear = s.clear;
        }

  -- ---- the last stage

  -- What a commit asks for.
  pub stage_commit : (e : ℕ) (s u : Tree e) → us ≡ render (block_size g) e s → (J : List ℕ) (free : List ℕ) → Stage J (render (block_size g) e u) free
      → blocks_at u ≡ blocks_at s → GoodTree (block_size g) e u → Commit g I J d t e s u
  stage_commit e s u k J free c f q =
      let same : (i : ℕ) → count i (ats us) ≡ count i (blocks (block_size g) e s) = λ i. ap (λ (l : List Piece). count i (ats l)) k in
      record {
        long = c.kept.size;
        total = used_count g J;
        moved = subst (λ (l : List Piece). used_count g J + length (ats l) ≡ data_at g + length (blocks (block_size g) d t) + length (blocks (block_size g) e u)) k c.moved;
        top = c.top;
        bits = λ x h. omega (arith, c.marks x h, same (data_at g + x), mark_is g J x, mark_is g I x);
        fresh = λ i. omega (arith, c.apart i, same i);
        inside = λ i h. let r = c.inside i h in (r.0, omega (arith, r.1));
        has_bit = λ i h. omega (arith, (c.inside i h).1);
        first = f;
        good = q;
        shown = c.shown;
      }
