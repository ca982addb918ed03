-- A chain given another number of blocks: the blocks that it has then, their bytes, and what else has changed.
use mathlib.Core.Path.{◌≡◌, refl, sym, ap, ◌∙◌, subst}
use mathlib.Core.List.{List, [], ◌∷◌, ◌++◌, append_assoc, append-nil}
use Prim.Native.Nat.{ℕ, suc, ◌+◌, ◌-◌, ◌*◌, ◌≤◌, ◌<◌}
use native.Mathlib.Nat.{mul-zero, mul-suc, mul-add}
use native.Mathlib.Decide.{dec_lt}
use native.Mathlib.Omega.{arith}
use borrow.Author.Tests.{lt-ltb, le-ltb}
use lib.ListN.{length, get_or, take, length-append, length-replicate, replicate-append-replicate}
use lib.Seq.{length-take-le, take_all, take_at, take-append-add, ext_get_or}
use Rattle.wire.specs.Be.{zeros, bytes, splice}
use Rattle.wire.proofs.Numbers.{length-splice, splice_before, splice_in, splice-after, length_bytes}
use Rattle.wire.proofs.Picks.{pick_true, pick_false}
use Rattle.block.specs.Block.{linked, Kept}
use Rattle.block.proofs.Blocks.{kept_less}
use Rattle.model.specs.Tree.{Cell}
use Rattle.model.specs.Render.{cells_at, cell_pieces, count, Shows, Wiped}
use Rattle.model.specs.Geometry.{Geo, block_size, data_at, map_bits, super_bytes, used_count, Sound}
use Rattle.model.specs.Volume.{All, GoodCell}
use Rattle.model.specs.Calls.{places, stream}
use Rattle.model.proofs.Areas.{size_large, block_inside}
use Rattle.model.proofs.Commit.{shows_one}
use Rattle.model.proofs.Contents.{length-stream, length-places}
use Rattle.model.proofs.Counts.{count_same, count_self}
use Rattle.model.proofs.Lists.{all_left, length_none}
use Rattle.bitmap_block.specs.Bitmap.{mark, clears, Room}
use Rattle.bitmap_block.proofs.Stores.{Aside}
use Rattle.chain_store.specs.Chain.{chain_freed}
use Rattle.write_store.specs.Write.{hop, extended, cut_after, resized, HeldCells, Chained}
use Rattle.write_store.proofs.Cells.{Front, front_of, places-append, count_places, count_cell, empties, places_empties, count_last, back_shows}
use Rattle.write_store.proofs.Extends.{Extended, extended_held, extended_is}
use Rattle.write_store.proofs.Frees.{cut_held, cut_kept, cut_wiped, cut_marks, cut_top}
use Rattle.write_store.proofs.Hops.{hop_cells}

-- The chain cs of I is the chain ds of J, with `new` blocks: of cs and then of the free ones; their bytes are those of cs and then zeros.
pub record Resized (g : Geo) (I J : List ℕ) (cs ds : List Cell) (new : ℕ) : Type 0 where
  pub held : HeldCells g J ds
  pub starts : cells_at ds ≡ cells_at cs
  pub spots : places ds ≡ take new (places cs ++ clears g I)
  pub long : length ds ≡ new
  pub bytes : stream ds ≡ take ((block_size g - 4) * new) (stream cs ++ zeros ((block_size g - 4) * (new - length cs)))
  pub kept : Kept (block_size g) (λ b o. Aside g b o × ((count b (places ds) ≡ 0) × (count b (places cs) ≡ 0))) I J
  pub wiped : (b : ℕ) → 1 ≤ count b (places cs) → count b (places ds) ≡ 0 → Wiped (block_size g) J b
  pub marks : (x : ℕ) → x < map_bits g → mark g J x + count (data_at g + x) (places cs) ≡ mark g I x + count (data_at g + x) (places ds)
  pub total : ℕ
  pub sum : total + length cs ≡ used_count g I + new
  pub top : Shows I (block_size g * g.K) (super_bytes g (used_count g I)) → Shows J (block_size g * g.K) (super_bytes g total)

-- ---- bytes

stream-append : (xs ys : List Cell) → stream (xs ++ ys) ≡ stream xs ++ stream ys
unfolding stream
stream-append [] ys = refl
stream-append (x ∷ xs) ys = ap (λ (l : List ℕ). x.body ++ l) (stream-append xs ys) ∙ sym (append_assoc x.body (stream xs) (stream ys))

stream_empties : (g : Geo) (ws : List ℕ) → stream (empties g ws) ≡ zeros ((block_size g - 4) * length ws)
unfolding stream empties
stream_empties g [] = ap zeros (sym (mul-zero (block_size g - 4)))
stream_empties g (w ∷ ws) =
    let k : ℕ = block_size g - 4 in
    ap (λ (l : List ℕ). zeros k ++ l) (stream_empties g ws) ∙ replicate-append-replicate {A = ℕ} k (k * length ws) 0
    ∙ ap zeros (let e : k + k * length ws ≡ k * suc (length ws) = omega (arith, mul-suc k (length ws)) in e)

-- ---- more blocks

module _ (g : Geo) (I : List ℕ) (s : Sound g (length I)) (xs : List Cell) (c : Cell) (k : ℕ) (h : HeldCells g I (xs ++ (c ∷ []))) (r : Room g I k) where
  abbrev cs : List Cell
  cs = xs ++ (c ∷ [])

  abbrev ws : List ℕ
  ws = take k (clears g I)

  ws_long : length ws ≡ k
  ws_long = length-take-le k (clears g I) r.clear

  cs_spots : (i : ℕ) → count i (places cs) ≡ count i (places xs) + count i (c.at ∷ [])
  cs_spots i = count_last i xs c

  last_in : (data_at g ≤ c.at) × (c.at < g.n)
  last_in = h.range c.at (omega (arith, cs_spots c.at, count_self c.at))

  ds_spots : (i : ℕ) → count i (places (cs ++ empties g ws)) ≡ count i (places cs) + count i ws
  ds_spots i = count_places i cs (empties g ws) ∙ ap (λ (l : List ℕ). count i (places cs) + count i l) (places_empties g ws)

  start : (xs : List Cell) (zs : List Cell) → cells_at ((xs ++ (c ∷ [])) ++ zs) ≡ cells_at (xs ++ (c ∷ []))
  unfolding cells_at
  start [] zs = refl
  start (x ∷ xs) zs = refl

  is : Extended g I (extended g I c.at k) c.at ws
  is = extended_is g k I s c.at last_in.0 last_in.1 r

  grows_resized : Resized g I (extended g I c.at k) (xs ++ (c ∷ [])) ((xs ++ (c ∷ [])) ++ empties g (take k (clears g I))) (length (xs ++ (c ∷ [])) + k)
  grows_resized =
      let B : ℕ = block_size g in
      let w : ℕ = B - 4 in
      let n : ℕ = length cs in
      let lp : length (places cs) ≡ n = length-places cs in
      let e : n + k - n ≡ k = omega arith in
      let long-bytes : length (stream cs ++ zeros (w * k)) ≡ w * (n + k)
      = length-append (stream cs) (zeros (w * k)) ∙ omega (arith, length-stream B cs h.whole, length-replicate {A = ℕ} (w * k) 0, mul-add w n k) in
      record {
        held = extended_held g k I s xs c h r;
        starts = start xs (empties g ws);
        spots = places-append cs (empties g ws) ∙ ap (λ (l : List ℕ). places cs ++ l) (places_empties g ws)
            ∙ sym (ap (λ (z : ℕ). take (z + k) (places cs ++ clears g I)) (sym lp) ∙ take-append-add (places cs) (clears g I) k);
        long = length-append cs (empties g ws) ∙ omega (arith, sym (length-places (empties g ws)) ∙ ap length (places_empties g ws), ws_long);
        bytes = stream-append cs (empties g ws) ∙ ap (λ (l : List ℕ). stream cs ++ l) (stream_empties g ws) ∙ ap (λ (z : ℕ). stream cs ++ zeros (w * z)) (ws_long)
            ∙ sym (ap (λ (z : ℕ). take (w * (n + k)) (stream cs ++ zeros (w * z))) e ∙ take_all (w * (n + k)) (stream cs ++ zeros (w * k)) (omega (arith, long-bytes)));
        kept = kept_less (λ b o p. (
          p.0,
          (
            λ q _ _. omega (arith, p.1.0, ds_spots b, cs_spots b, count_same b c.at [] q),
            omega (arith, p.1.0, ds_spots b),
          ),
        )) is.kept;
        wiped = λ b p q. absurd (omega (arith, p, q, ds_spots b));
        marks = λ x q. omega (arith, is.marks x q, ds_spots (data_at g + x));
        total = used_count g I + k;
        sum = omega arith;
        top = λ t. subst (λ (z : ℕ). Shows (extended g I c.at k) (B * g.K) (super_bytes g (used_count g I + z))) (ws_long) (is.top t);
      }

-- ---- no more blocks

module _ (g : Geo) (I : List ℕ) (s : Sound g (length I)) (xs : List Cell) (c : Cell) (ys : List Cell) (h : HeldCells g I (xs ++ (c ∷ ys))) (l : length ys ≤ used_count g I) (u : used_count g I ≤ g.n) where
  abbrev kept_cells : List Cell
  kept_cells = xs ++ (c ∷ [])

  parts : xs ++ (c ∷ ys) ≡ kept_cells ++ ys
  parts = sym (append_assoc xs (c ∷ []) ys)

  good : All (GoodCell (block_size g)) kept_cells
  good = all_left (GoodCell (block_size g)) kept_cells ys (subst (All (GoodCell (block_size g))) parts h.whole)

  spots_both : (i : ℕ) → count i (places (xs ++ (c ∷ ys))) ≡ count i (places kept_cells) + count i (places ys)
  spots_both i = ap (λ (z : List Cell). count i (places z)) parts ∙ count_places i kept_cells ys

  same_start : (xs : List Cell) → cells_at (xs ++ (c ∷ [])) ≡ cells_at (xs ++ (c ∷ ys))
  unfolding cells_at
  same_start [] = refl
  same_start (x ∷ xs) = refl

  cuts_resized : Resized g I (cut_after g I c.at (length ys)) (xs ++ (c ∷ ys)) (xs ++ (c ∷ [])) (length (xs ++ (c ∷ [])))
  cuts_resized =
      let B : ℕ = block_size g in
      let w : ℕ = B - 4 in
      let n : ℕ = length kept_cells in
      let long : length (xs ++ (c ∷ ys)) ≡ n + length ys = ap length parts ∙ length-append kept_cells ys in
      let e : w * (n - length (xs ++ (c ∷ ys))) ≡ 0 = (let z : n - length (xs ++ (c ∷ ys)) ≡ 0 = omega arith in ap (λ (m : ℕ). w * m) z ∙ mul-zero w) in
      let all : stream (xs ++ (c ∷ ys)) ++ zeros (w * (n - length (xs ++ (c ∷ ys)))) ≡ stream kept_cells ++ stream ys
      = ap (λ (m : ℕ). stream (xs ++ (c ∷ ys)) ++ zeros m) e ∙ append-nil (stream (xs ++ (c ∷ ys))) ∙ ap stream parts ∙ stream-append kept_cells ys in
      record {
        held = cut_held g I s xs c ys h l u;
        starts = same_start xs;
        spots = sym (ap (take n) (ap (λ (z : List Cell). places z ++ clears g I) parts ∙ ap (λ (z : List ℕ). z ++ clears g I) (places-append kept_cells ys)
            ∙ append_assoc (places kept_cells) (places ys) (clears g I))
            ∙ take_at (places kept_cells) (places ys ++ clears g I) n (length-places kept_cells));
        long = refl;
        bytes = sym (ap (take (w * n)) all ∙ take_at (stream kept_cells) (stream ys) (w * n) (length-stream B kept_cells good));
        kept = kept_less (λ b o p. (
          p.0,
          (
            λ q _ _. omega (arith, p.1.0, count_places b xs (c ∷ []), count_cell b c [], count_same b c.at [] q),
            omega (arith, p.1.1, spots_both b),
          ),
        )) (cut_kept g I s xs c ys h l u);
        wiped = λ b p q. cut_wiped g I s xs c ys h l u b (omega (arith, p, q, spots_both b));
        marks = λ x q. omega (arith, cut_marks g I s xs c ys h l u x q, spots_both (data_at g + x));
        total = used_count g I - length ys;
        sum = omega (arith, long);
        top = cut_top g I s xs c ys h l u;
      }

-- ---- either

resized-more : (g : Geo) (I : List ℕ) (a old new : ℕ) → old < new → resized g I a old new ≡ extended g I (hop (block_size g) I (old - 1) a) (new - old)
unfolding resized
resized-more g I a old new h = pick_true _ _ (lt-ltb old new h)

resized_less : (g : Geo) (I : List ℕ) (a old new : ℕ) → new ≤ old → resized g I a old new ≡ cut_after g I (hop (block_size g) I (new - 1) a) (old - new)
unfolding resized
resized_less g I a old new h = pick_false _ _ (le-ltb old new h)

-- the block after k hops
hops : (g : Geo) (I : List ℕ) (s : Sound g (length I)) (cs : List Cell) → HeldCells g I cs → (k : ℕ) (xs : List Cell) (c : Cell) (ys : List Cell) → cs ≡ xs ++ (c ∷ ys) → length xs ≡ k
    → hop (block_size g) I k (cells_at cs) ≡ c.at
unfolding cells_at
hops g I s cs h k xs c ys e l =
    let m : HeldCells g I (xs ++ (c ∷ ys)) = subst (HeldCells g I) e h in
    ap (λ (z : List Cell). hop (block_size g) I k (cells_at z)) e ∙ ap (λ (z : ℕ). hop (block_size g) I z (cells_at (xs ++ (c ∷ ys)))) (sym l) ∙ (unfold cells_at in hop_cells g I s xs (c ∷ ys) m.range m.shown)

-- the blocks that a resized chain has
pub record Outcome (g : Geo) (I J : List ℕ) (cs : List Cell) (new : ℕ) : Type 0 where
  pub cells : List Cell
  pub is : Resized g I J cs cells new

pub resized_is : (g : Geo) (I : List ℕ) → Sound g (length I) → (cs : List Cell) (new : ℕ) → HeldCells g I cs → 1 ≤ length cs → 1 ≤ new → Room g I (new - length cs) → length cs ≤ used_count g I
    → Outcome g I (resized g I (cells_at cs) (length cs) new) cs new
resized_is g I s cs new h p q r l = go (dec_lt (length cs) new)
  where
    grows : length cs < new → (f : Front (length cs - 1) cs) → Outcome g I (extended g I (hop (block_size g) I (length cs - 1) (cells_at cs)) (new - length cs)) cs new
    grows a f =
        let none : f.back ≡ [] = length_none f.back (omega (arith, ap length f.is, length-append f.front (f.cell ∷ f.back), f.long)) in
        let e : cs ≡ f.front ++ (f.cell ∷ []) = f.is ∙ ap (λ (z : List Cell). f.front ++ (f.cell ∷ z)) none in
        let m : length (f.front ++ (f.cell ∷ [])) + (new - length cs) ≡ new = omega (arith, ap length e) in
        record {
          cells = (f.front ++ (f.cell ∷ [])) ++ empties g (take (new - length cs) (clears g I));
          is = subst (λ (z : ℕ). Resized g I (extended g I z (new - length cs)) cs ((f.front ++ (f.cell ∷ [])) ++ empties g (take (new - length cs) (clears g I))) new) (sym (last f f.back f.is))
              (subst (λ (z : List Cell). Resized g I (extended g I f.cell.at (new - length cs)) z ((f.front ++ (f.cell ∷ [])) ++ empties g (take (new - length cs) (clears g I))) new) (sym e)
              (subst (Resized g I (extended g I f.cell.at (new - length cs)) (f.front ++ (f.cell ∷ [])) ((f.front ++ (f.cell ∷ [])) ++ empties g (take (new - length cs) (clears g I)))) m
              (grows_resized g I s f.front f.cell (new - length cs) (subst (HeldCells g I) e h) r)));
        }
      where
        last : (f : Front (length cs - 1) cs) (ys : List Cell) → cs ≡ f.front ++ (f.cell ∷ ys) → hop (block_size g) I (length cs - 1) (cells_at cs) ≡ f.cell.at
        last f ys e = hops g I s cs h (length cs - 1) f.front f.cell ys e f.long

    cuts : new ≤ length cs → (f : Front (new - 1) cs) → Outcome g I (cut_after g I (hop (block_size g) I (new - 1) (cells_at cs)) (length cs - new)) cs new
    cuts a f =
        let k : length cs - new ≡ length f.back = omega (arith, ap length f.is, length-append f.front (f.cell ∷ f.back), f.long) in
        let m : length (f.front ++ (f.cell ∷ [])) ≡ new = omega (arith, length-append f.front (f.cell ∷ []), f.long) in
        let z : hop (block_size g) I (new - 1) (cells_at cs) ≡ f.cell.at = hops g I s cs h (new - 1) f.front f.cell f.back f.is f.long in
        record {
          cells = f.front ++ (f.cell ∷ []);
          is = subst (λ (x : ℕ). Resized g I (cut_after g I x (length cs - new)) cs (f.front ++ (f.cell ∷ [])) new) (sym z)
              (subst (λ (x : ℕ). Resized g I (cut_after g I f.cell.at x) cs (f.front ++ (f.cell ∷ [])) new) (sym k)
              (subst (λ (x : List Cell). Resized g I (cut_after g I f.cell.at (length f.back)) x (f.front ++ (f.cell ∷ [])) new) (sym f.is)
              (subst (Resized g I (cut_after g I f.cell.at (length f.back)) (f.front ++ (f.cell ∷ f.back)) (f.front ++ (f.cell ∷ []))) m
              (cuts_resized g I s f.front f.cell f.back (subst (HeldCells g I) f.is h) (omega (arith, k)) (omega (arith, r.count))))));
        }

    go : Dec (length cs < new) → Outcome g I (resized g I (cells_at cs) (length cs) new) cs new
    go (yes a) =
        subst (λ (L : List ℕ). Outcome g I L cs new) (sym (resized-more g I (cells_at cs) (length cs) new a)) (grows a (front_of (length cs - 1) cs (omega arith)))
    go (no a) =
        subst (λ (L : List ℕ). Outcome g I L cs new) (sym (resized_less g I (cells_at cs) (length cs) new (omega arith))) (cuts (omega arith) (front_of (new - 1) cs (omega arith)))

-- ---- as many blocks as before: the last one's next address is 0 already

-- a store of what stands there
splice_shown : (I : List ℕ) (k : ℕ) (l : List ℕ) → k + length l ≤ length I → Shows I k l → splice I k l ≡ I
splice_shown I k l h s = ext_get_or 0 (splice I k l) I (length-splice I k l h) (λ i _. go i (dec_lt i k) (dec_lt i (k + length l)))
  where
    go : (i : ℕ) → Dec (i < k) → Dec (i < k + length l) → get_or (splice I k l) i 0 ≡ get_or I i 0
    go i (yes p) q = splice_before I k l h i p
    go i (no p) (yes q) =
        let e : k + (i - k) ≡ i = omega arith in
        let m : i - k < length l = omega arith in
        subst (λ (j : ℕ). get_or (splice I k l) j 0 ≡ get_or I j 0) e (splice_in I k l h (i - k) m ∙ sym (s (i - k) m))
    go i (no p) (no q) = splice-after I k l h i (omega arith)

last_linked : (g : Geo) (I : List ℕ) → Sound g (length I) → (xs : List Cell) (c : Cell) → HeldCells g I (xs ++ (c ∷ []))
    → linked (block_size g) I c.at 0 ≡ I
unfolding linked cell_pieces cells_at
last_linked g I s xs c h =
    let B : ℕ = block_size g in
    let high : c.at < g.n = (h.range c.at (omega (arith, count_last c.at xs c, count_self c.at))).1 in
    let shown : Shows I (B * c.at) (bytes 4 0 ++ c.body) = (back_shows B I xs (c ∷ []) h.shown).0 in
    splice_shown I (B * c.at) (bytes 4 0)
    (omega (arith, length_bytes 4 0, size_large g, block_inside g (length I) s c.at high))
    (shows_one I (B * c.at) (bytes 4 0) c.body shown)

pub resized_same : (g : Geo) (I : List ℕ) → Sound g (length I) → (a old new : ℕ) → Chained g I a old → 1 ≤ old → old ≡ new
    → I ≡ resized g I a old new
unfolding cut_after chain_freed
resized_same g I s a old new c some e =
    let cs = c.cells in
    let f = front_of (new - 1) cs (omega (arith, c.long)) in
    let none : f.back ≡ []
    = length_none f.back (omega (arith, c.long, ap length f.is, length-append f.front (f.cell ∷ f.back), f.long)) in
    let k : cs ≡ f.front ++ (f.cell ∷ []) = f.is ∙ ap (λ (z : List Cell). f.front ++ (f.cell ∷ z)) none in
    let z : hop (block_size g) I (new - 1) a ≡ f.cell.at
    = ap (hop (block_size g) I (new - 1)) (sym c.starts)
    ∙ hops g I s cs c.held (new - 1) f.front f.cell [] k f.long in
    let d : old - new ≡ 0 = omega arith in
    sym (resized_less g I a old new (omega arith)
    ∙ (λ i. cut_after g I (z i) (d i))
    ∙ last_linked g I s f.front f.cell (subst (HeldCells g I) k c.held))
