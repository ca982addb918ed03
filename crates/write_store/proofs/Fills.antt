-- The buffer along a chain: the bytes that its blocks show then, and that no other block has changed.
use mathlib.Core.Path.{◌≡◌, refl, sym, ap, ◌∙◌, subst}
use mathlib.Core.List.{List, [], ◌∷◌, ◌++◌, append-nil}
use Prim.Native.Nat.{ℕ, zero, suc, ◌+◌, ◌-◌, ◌*◌, ◌/◌, ◌%◌, ◌≤◌, ◌<◌}
use native.Mathlib.Nat.{mul-zero, mul-suc, mul-add, mul-le-mul_left, div-add-mod, mod-lt}
use native.Mathlib.Decide.{dec_lt}
use native.Mathlib.Omega.{arith}
use lib.ListN.{length, get_or, take, drop, length-append, length-take, length-drop}
use Rattle.wire.specs.Be.{bytes, splice}
use Rattle.wire.proofs.Numbers.{length_bytes, length-splice, splice_before, splice_in, splice-after, splice-nil}
use Rattle.block.specs.Block.{cell, next, Off, Kept}
use Rattle.block.proofs.Blocks.{kept_refl, kept_trans, kept_less, splice_kept}
use Rattle.model.specs.Tree.{Cell}
use Rattle.model.specs.Render.{cells_at, cell_pieces, count, Shows, ShowsAll}
use Rattle.model.specs.Geometry.{Geo, block_size, data_at, Sound}
use Rattle.model.specs.Volume.{All, GoodCell}
use Rattle.model.specs.Calls.{places, stream, chop}
use Rattle.model.proofs.Areas.{size_large, block_inside}
use Rattle.model.proofs.Commit.{shows_both, shows_one, shows_two, shows_before}
use Rattle.model.proofs.Counts.{count_same, count_self}
use Rattle.model.proofs.Frame.{SameBlock}
use Rattle.model.proofs.Owns.{shows_kept}
use Rattle.model.proofs.Lists.{all_left, all_right, length_none}
use Rattle.bitmap_block.proofs.Stores.{sound_kept}
use Rattle.write_store.specs.Write.{hop, poured, spread}
use Rattle.write_store.proofs.Cells.{Front, front_of, count_places, count_cell, tail_shows, back_shows}
use Rattle.write_store.proofs.Chops.{chop_same, chop_starts, chop_first, chop-past}
use Rattle.write_store.proofs.Hops.{next-cell, hop_cells}

-- ---- a run of one block

-- bytes stored over a part that is shown
part_stored : (I : List ℕ) (k : ℕ) (body : List ℕ) (o : ℕ) (us : List ℕ) → k + length body ≤ length I → o + length us ≤ length body → Shows I k body → Shows (splice I (k + o) us) k (splice body o us)
part_stored I k body o us h l s j q = go (dec_lt j o) (dec_lt j (o + length us))
  where
    fits : k + o + length us ≤ length I
    fits = omega arith

    go : Dec (j < o) → Dec (j < o + length us) → get_or (splice I (k + o) us) (k + j) 0 ≡ get_or (splice body o us) j 0
    go (yes a) b = splice_before I (k + o) us fits (k + j) (omega arith) ∙ s j (omega arith) ∙ sym (splice_before body o us l j a)
    go (no a) (yes b) =
        let e : k + j ≡ k + o + (j - o) = omega arith in
        let f : o + (j - o) ≡ j = omega arith in
        ap (λ (x : ℕ). get_or (splice I (k + o) us) x 0) e ∙ splice_in I (k + o) us fits (j - o) (omega arith) ∙ sym (splice_in body o us l (j - o) (omega arith))
        ∙ ap (λ (x : ℕ). get_or (splice body o us) x 0) f
    go (no a) (no b) =
        splice-after I (k + o) us fits (k + j) (omega arith) ∙ s j (omega (arith, length-splice body o us l)) ∙ sym (splice-after body o us l j (omega arith))

run_shown : (B : ℕ) (I : List ℕ) (a z : ℕ) (body : List ℕ) (o : ℕ) (us : List ℕ) → 4 ≤ B → B * a + B ≤ length I → length body ≡ B - 4 → o + length us ≤ B - 4
    → Shows I (B * a) (bytes 4 z ++ body) → Shows (splice I (B * a + 4 + o) us) (B * a) (bytes 4 z ++ splice body o us)
run_shown B I a z body o us f h g l s =
    let lz : length (bytes 4 z) ≡ 4 = length_bytes 4 z in
    let e : B * a + length (bytes 4 z) ≡ B * a + 4 = omega arith in
    let J : List ℕ = splice I (B * a + 4 + o) us in
    let t : Shows I (B * a + 4) body = subst (λ (x : ℕ). Shows I x body) e (shows_two I (B * a) (bytes 4 z) body s) in
    shows_both J (B * a) (bytes 4 z) (splice body o us)
    (shows_before I (B * a + 4 + o) us (omega arith) (B * a) (bytes 4 z) (omega arith) (shows_one I (B * a) (bytes 4 z) body s))
    (subst (λ (x : ℕ). Shows J x (splice body o us)) (sym e) (part_stored I (B * a + 4) body o us (omega arith) (omega arith) t))

-- ---- along the chain

-- The image shows these blocks, each whole and in D..n-1, none twice.
pub record Row (g : Geo) (I : List ℕ) (cs : List Cell) : Type 0 where
  pub shown : ShowsAll (block_size g) I (cell_pieces cs)
  pub whole : All (GoodCell (block_size g)) cs
  pub once : (i : ℕ) → count i (places cs) ≤ 1
  pub range : (i : ℕ) → 1 ≤ count i (places cs) → (data_at g ≤ i) × (i < g.n)

-- Then J shows the blocks ds, which stand where cs do, and no other block has changed.
pub record Filled (g : Geo) (I J : List ℕ) (cs ds : List Cell) : Type 0 where
  pub shown : ShowsAll (block_size g) J (cell_pieces ds)
  pub kept : Kept (block_size g) (λ b o. count b (places cs) ≡ 0) I J

bodies : (g : Geo) (cs : List Cell) → All (GoodCell (block_size g)) cs → All (λ c. length c.body ≡ block_size g - 4) cs
bodies g [] a = tt
bodies g (c ∷ cs) a = (a.0.whole, bodies g cs a.1)

poured-none : (B : ℕ) (I : List ℕ) (a o : ℕ) (vs : List ℕ) → poured B I a o vs 0 ≡ I
unfolding poured
poured-none B I a o vs = refl

poured-more : (B : ℕ) (I : List ℕ) (a o : ℕ) (vs : List ℕ) (k : ℕ)
    → poured B I a o vs (suc k) ≡ poured B (splice I (B * a + 4 + o) (take (B - 4 - o) vs)) (next B I a) 0 (drop (B - 4 - o) vs) k
unfolding poured
poured-more B I a o vs k = refl

module _ (g : Geo) where
  abbrev w : ℕ
  w = block_size g - 4

  module _ (I : List ℕ) (s : Sound g (length I)) (c : Cell) (cs : List Cell) (r : Row g I (c ∷ cs)) (o : ℕ) (h : o ≤ w) (vs : List ℕ) where
    abbrev B : ℕ
    B = block_size g

    abbrev us : List ℕ
    us = take (w - o) vs

    abbrev L : List ℕ
    L = splice I (B * c.at + 4 + o) us

    few : o + length us ≤ w
    few = omega (arith, length-take (w - o) vs)

    here : (data_at g ≤ c.at) × (c.at < g.n)
    here = r.range c.at (omega (arith, count_cell c.at c cs, count_self c.at))

    inside : B * c.at + B ≤ length I
    inside = block_inside g (length I) s c.at here.1

    alone : count c.at (places cs) ≡ 0
    alone = omega (arith, r.once c.at, count_cell c.at c cs, count_self c.at)

    run_kept : Kept B (Off c.at (4 + o) (length us)) I L
    run_kept =
        let e : B * c.at + 4 + o ≡ B * c.at + (4 + o) = omega arith in
        subst (λ (x : ℕ). Kept B (Off c.at (4 + o) (length us)) I (splice I x us)) (sym e)
        (splice_kept B I c.at (4 + o) us (omega (arith, few, size_large g)) inside)

    other : (b : ℕ) → 1 ≤ count b (places cs) → SameBlock B I L b
    unfolding cell
    other b q i p = run_kept.at b i (λ e _ _. omega (arith, alone, ap (λ (x : ℕ). count x (places cs)) e)) p

    -- the blocks after it are as they were
    rest : Row g L cs
    unfolding cell_pieces
    rest =
        record {
          shown = subst (λ (l : List Cell). ShowsAll B L (cell_pieces l)) (append-nil cs)
              (tail_shows B I L (omega (arith, size_large g)) cs [] [] r.whole.1 other refl (subst (λ (l : List Cell). ShowsAll B I (cell_pieces l)) (sym (append-nil cs)) r.shown.1) tt);
          whole = r.whole.1;
          once = λ i. omega (arith, r.once i, count_cell i c cs);
          range = λ i q. r.range i (omega (arith, count_cell i c cs));
        }

    -- it shows its part
    first : Shows L (B * c.at) (bytes 4 (cells_at cs) ++ splice c.body o us)
    unfolding cell_pieces
    first = run_shown B I c.at (cells_at cs) c.body o us (omega (arith, size_large g)) inside r.whole.0.whole few r.shown.0

    both : (J : List ℕ) → Filled g L J cs (chop w (places cs) (splice (stream cs) 0 (drop (w - o) vs))) → Filled g I J (c ∷ cs) (chop w (places (c ∷ cs)) (splice (stream (c ∷ cs)) o vs))
    unfolding cell_pieces
    both J f =
        let ds : List Cell = chop w (places cs) (splice (stream cs) 0 (drop (w - o) vs)) in
        let long : length (bytes 4 (cells_at cs) ++ splice c.body o us) ≡ B
        = length-append (bytes 4 (cells_at cs)) (splice c.body o us)
        ∙ omega (arith, length_bytes 4 (cells_at cs), length-splice c.body o us (omega (arith, few, r.whole.0.whole)), r.whole.0.whole, size_large g) in
        record {
          shown = subst (λ (l : List Cell). ShowsAll B J (cell_pieces l)) (sym (chop_first w c cs o vs r.whole.0.whole h)) (
            subst (λ (z : ℕ). Shows J (B * c.at) (bytes 4 z ++ splice c.body o us)) (sym (chop_starts w cs (splice (stream cs) 0 (drop (w - o) vs))))
                (shows_kept B _ L J c.at (bytes 4 (cells_at cs) ++ splice c.body o us) f.kept (λ _ _. alone) (omega (arith, long)) first),
            f.shown,
          );
          kept = kept_trans (kept_less (λ b p q e _ _. omega (arith, q, count_cell b c cs, count_same b c.at [] e)) run_kept)
              (kept_less (λ b p q. omega (arith, q, count_cell b c cs)) f.kept);
        }

  poured_is : (m : ℕ) (I : List ℕ) → Sound g (length I) → (cs : List Cell) → Row g I cs → (o : ℕ) → o ≤ w → (vs : List ℕ) → m ≤ length cs → o + length vs ≤ w * m
      → Filled g I (poured (block_size g) I (cells_at cs) o vs m) cs (chop w (places cs) (splice (stream cs) o vs))
  poured_is zero I s cs r o h vs k l =
      let e : vs ≡ [] = length_none vs (omega (arith, mul-zero w)) in
      let d : chop w (places cs) (splice (stream cs) o vs) ≡ cs
      = ap (λ (x : List ℕ). chop w (places cs) (splice (stream cs) o x)) e ∙ ap (chop w (places cs)) (splice-nil (stream cs) o) ∙ chop_same w cs (bodies g cs r.whole) in
      subst (λ (J : List ℕ). Filled g I J cs (chop w (places cs) (splice (stream cs) o vs))) (sym (poured-none (block_size g) I (cells_at cs) o vs))
      (subst (Filled g I I cs) (sym d) (record { shown = r.shown; kept = kept_refl I }))
  poured_is (suc m) I s [] r o h vs k l = absurd (omega arith)
  poured_is (suc m) I s (c ∷ cs) r o h vs k l =
      let e : poured (block_size g) I (cells_at (c ∷ cs)) o vs (suc m) ≡ poured (block_size g) (L I s c cs r o h vs) (cells_at cs) 0 (drop (w - o) vs) m
      = start (cells_at (c ∷ cs)) (at c cs) ∙ ap (λ (x : ℕ). poured (block_size g) (L I s c cs r o h vs) x 0 (drop (w - o) vs) m) (next-cell g I s c cs r.range r.shown) in
      subst (λ (J : List ℕ). Filled g I J (c ∷ cs) (chop w (places (c ∷ cs)) (splice (stream (c ∷ cs)) o vs))) (sym e)
      (both I s c cs r o h vs _
      (poured_is m (L I s c cs r o h vs) (sound_kept g I s _ (L I s c cs r o h vs) (run_kept I s c cs r o h vs)) cs (rest I s c cs r o h vs) 0 (omega arith) (drop (w - o) vs) (omega arith)
      (omega (arith, length-drop (w - o) vs, mul-suc w m))))
    where
      at : (c : Cell) (cs : List Cell) → cells_at (c ∷ cs) ≡ c.at
      at c cs = unfold cells_at in refl

      start : (a : ℕ) → a ≡ c.at → poured (block_size g) I a o vs (suc m) ≡ poured (block_size g) (splice I (block_size g * c.at + 4 + o) (take (w - o) vs)) (next (block_size g) I c.at) 0 (drop (w - o) vs) m
      start a q = ap (λ (x : ℕ). poured (block_size g) I x o vs (suc m)) q ∙ poured-more (block_size g) I c.at o vs m

  -- ---- from byte c on

  module _ (I : List ℕ) (s : Sound g (length I)) (xs ys : List Cell) (r : Row g I (xs ++ ys)) where
    -- the blocks after the first ones
    back_row : Row g I ys
    back_row =
        record {
          shown = back_shows (block_size g) I xs ys r.shown;
          whole = all_right (GoodCell (block_size g)) xs ys r.whole;
          once = λ i. omega (arith, r.once i, count_places i xs ys);
          range = λ i q. r.range i (omega (arith, count_places i xs ys));
        }

    filled_past : (J : List ℕ) (o : ℕ) (vs : List ℕ) → Filled g I J ys (chop w (places ys) (splice (stream ys) o vs))
        → Filled g I J (xs ++ ys) (chop w (places (xs ++ ys)) (splice (stream (xs ++ ys)) (w * length xs + o) vs))
    unfolding cell
    filled_past J o vs f =
        record {
          shown = subst (λ (l : List Cell). ShowsAll (block_size g) J (cell_pieces l)) (sym (chop-past w xs ys o vs (bodies g xs (all_left (GoodCell (block_size g)) xs ys r.whole))))
              (tail_shows (block_size g) I J (omega (arith, size_large g)) xs ys (chop w (places ys) (splice (stream ys) o vs)) (all_left (GoodCell (block_size g)) xs ys r.whole)
              (λ b q i p. f.kept.at b i (omega (arith, r.once b, count_places b xs ys)) p) (chop_starts w ys (splice (stream ys) o vs)) r.shown f.shown);
          kept = kept_less (λ b p q. omega (arith, q, count_places b xs ys)) f.kept;
        }

  spread_at : (I : List ℕ) (a c : ℕ) (vs : List ℕ) (m : ℕ) → spread (block_size g) I a c vs m ≡ poured (block_size g) I (hop (block_size g) I (c / w) a) (c % w) vs (m - c / w)
  unfolding spread
  spread_at I a c vs m = refl

  -- The chain shows the old bytes with the buffer from byte c on, which goes into its first m blocks; no other block has changed.
  pub spread_part : (I : List ℕ) → Sound g (length I) → (cs : List Cell) → Row g I cs → (c : ℕ) (vs : List ℕ) → 1 ≤ length vs → (m : ℕ) → m ≤ length cs → c + length vs ≤ w * m
      → Filled g I (spread (block_size g) I (cells_at cs) c vs m) cs (chop w (places cs) (splice (stream cs) c vs))
  spread_part I s cs r c vs h m few l = go (dec_lt (c / w) m)
    where
      some : 0 < w
      some = omega (arith, size_large g)

      parts : w * (c / w) + c % w ≡ c
      parts = div-add-mod c w

      from : (f : Front (c / w) cs) → c / w < m → Filled g I (spread (block_size g) I (cells_at cs) c vs m) cs (chop w (places cs) (splice (stream cs) c vs))
      from f below =
          let xs : List Cell = f.front in
          let ys : List Cell = f.cell ∷ f.back in
          let k : ℕ = m - c / w in
          let row : Row g I (xs ++ ys) = subst (Row g I) f.is r in
          let n : length cs ≡ length xs + length ys = ap length f.is ∙ length-append xs ys in
          let e : c ≡ w * length xs + c % w = sym parts ∙ ap (λ (x : ℕ). w * x + c % w) (sym f.long) in
          let a : hop (block_size g) I (c / w) (cells_at cs) ≡ cells_at ys
          = ap (λ (z : List Cell). hop (block_size g) I (c / w) (cells_at z)) f.is ∙ ap (λ (x : ℕ). hop (block_size g) I x (cells_at (xs ++ ys))) (sym f.long) ∙ hop_cells g I s xs ys row.range row.shown in
          let p : spread (block_size g) I (cells_at cs) c vs m ≡ poured (block_size g) I (cells_at ys) (c % w) vs k
          = spread_at I (cells_at cs) c vs m ∙ ap (λ (x : ℕ). poured (block_size g) I x (c % w) vs k) a in
          let all : w * m ≡ w * (c / w) + w * k = ap (λ (x : ℕ). w * x) (let z : m ≡ c / w + k = omega arith in z) ∙ mul-add w (c / w) k in
          let q : c % w + length vs ≤ w * k = omega (arith, parts, all) in
          subst (λ (J : List ℕ). Filled g I J cs (chop w (places cs) (splice (stream cs) c vs))) (sym p)
          (subst (λ (z : List Cell). Filled g I (poured (block_size g) I (cells_at ys) (c % w) vs k) z (chop w (places z) (splice (stream z) c vs))) (sym f.is)
          (subst (λ (x : ℕ). Filled g I (poured (block_size g) I (cells_at ys) (c % w) vs k) (xs ++ ys) (chop w (places (xs ++ ys)) (splice (stream (xs ++ ys)) x vs))) (sym e)
          (filled_past I s xs ys row (poured (block_size g) I (cells_at ys) (c % w) vs k) (c % w) vs
          (poured_is k I s ys (back_row I s xs ys row) (c % w) (omega (arith, mod-lt c some)) vs (omega (arith, n, f.long)) q))))

      go : Dec (c / w < m) → Filled g I (spread (block_size g) I (cells_at cs) c vs m) cs (chop w (places cs) (splice (stream cs) c vs))
      go (yes q) = from (front_of (c / w) cs (omega arith)) q
      go (no q) = absurd (omega (arith, parts, mul-le-mul_left w (let z : m ≤ c / w = omega arith in z)))

  pub spread_is : (I : List ℕ) → Sound g (length I) → (cs : List Cell) → Row g I cs → (c : ℕ) (vs : List ℕ) → 1 ≤ length vs → c + length vs ≤ w * length cs
      → Filled g I (spread (block_size g) I (cells_at cs) c vs (length cs)) cs (chop w (places cs) (splice (stream cs) c vs))
  spread_is I s cs r c vs h l = spread_part I s cs r c vs h (length cs) (omega arith) l
