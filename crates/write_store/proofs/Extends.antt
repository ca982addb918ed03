-- Blocks added to a chain: the chain that the image holds then, and what else has changed.
use mathlib.Core.Path.{◌≡◌, refl, sym, ap, ◌∙◌, subst}
use mathlib.Core.List.{List, [], ◌∷◌, ◌++◌, append_assoc, append-nil}
use Prim.Native.Nat.{ℕ, zero, suc, ◌+◌, ◌-◌, ◌*◌, ◌≤◌, ◌<◌}
use native.Mathlib.Decide.{dec_lt, ℕ_discrete}
use native.Mathlib.Omega.{arith}
use lib.ListN.{length, take}
use Rattle.wire.specs.Be.{bytes}
use Rattle.block.specs.Block.{cell, Off, Kept}
use Rattle.block.proofs.Blocks.{kept_refl, kept_trans, kept_less}
use Rattle.model.specs.Tree.{Cell}
use Rattle.model.specs.Render.{cells_at, cell_pieces, count, Shows, ShowsAll}
use Rattle.model.specs.Geometry.{Geo, block_size, data_at, map_bits, super_bytes, used_count, Sound}
use Rattle.model.specs.Volume.{GoodCell}
use Rattle.model.specs.Calls.{places, empty_cell}
use Rattle.model.proofs.Areas.{size_large}
use Rattle.model.proofs.Counts.{count_same, count_other, count_cons, count_none, count_self}
use Rattle.model.proofs.Frame.{SameBlock}
use Rattle.model.proofs.Full.{zero_byte}
use Rattle.model.proofs.Lists.{all_left, all_right, all_append}
use Rattle.bitmap_block.specs.Bitmap.{mark, clears, Room, fresh}
use Rattle.bitmap_block.proofs.Stores.{Aside, aside_data, fresh_low, fresh_head, fresh_high, fresh_end, fresh_clear}
use Rattle.write_store.specs.Write.{grown, extended, HeldCells}
use Rattle.write_store.proofs.Cells.{count_places, count_cell, count_no_cell, block_long, tail_shows, back_shows, empties, empty_good, count_last}
use Rattle.write_store.proofs.Grows.{grown_kept, grown_sound, grown_used, grown-clears, grown_room, grown-mark, grown_top, grown_zero, grown_links}

-- ---- one block

module _ (g : Geo) (I : List ℕ) (s : Sound g (length I)) (xs : List Cell) (c : Cell) (h : HeldCells g I (xs ++ (c ∷ []))) (room : 1 ≤ length (clears g I)) where
  all : (i : ℕ) → count i (places (xs ++ (c ∷ []))) ≡ count i (places xs) + count i (c.at ∷ [])
  all i = count_last i xs c

  last_in : (data_at g ≤ c.at) × (c.at < g.n)
  last_in = h.range c.at (omega (arith, all c.at, count_self c.at))

  -- the new block is none of the chain's, since theirs are marked
  fresh_new : count (fresh g I) (places (xs ++ (c ∷ []))) ≡ 0
  fresh_new = go (dec_lt 0 (count (fresh g I) (places (xs ++ (c ∷ [])))))
    where
      go : Dec (0 < count (fresh g I) (places (xs ++ (c ∷ [])))) → count (fresh g I) (places (xs ++ (c ∷ []))) ≡ 0
      go (yes q) = absurd (omega (arith, h.marked (fresh g I) q, fresh_clear g I room s))
      go (no q) = omega arith

  differs : fresh g I ≡ c.at → ⊥
  differs e = omega (arith, fresh_new, all (fresh g I), count_same (fresh g I) c.at [] e)

  J : List ℕ
  J = grown g I c.at

  front_same : (b : ℕ) → 1 ≤ count b (places xs) → SameBlock (block_size g) I J b
  unfolding cell J
  front_same b q i p =
      (grown_kept g I s room c.at last_in.0 last_in.1).at b i (
        aside_data g (length I) s b i (h.range b (omega (arith, all b))).0,
        (
          λ e _ _. omega (arith, h.once b, all b, count_same b c.at [] e),
          λ e. let z = ap (λ (x : ℕ). count x (places (xs ++ (c ∷ [])))) e in omega (arith, fresh_new, z, all b),
        ),
      ) p

  both_shown : ShowsAll (block_size g) J (cell_pieces (c ∷ (empty_cell g (fresh g I) ∷ [])))
  unfolding cell_pieces cells_at J cell
  both_shown = (
    grown_links g I s room c.at last_in.0 last_in.1 differs 0 c.body
        (omega (arith, (all_right (GoodCell (block_size g)) xs (c ∷ []) h.whole).0.whole, size_large g)) (back_shows (block_size g) I xs (c ∷ []) h.shown).0,
    (λ i q. grown_zero g I s room c.at last_in.0 last_in.1 differs i (short i q) ∙ sym (zero_byte (block_size g - 4) i), tt),
  )
    where
      short : (i : ℕ) → i < length (bytes 4 0 ++ (empty_cell g (fresh g I)).body) → i < block_size g
      short i q = omega (arith, block_long (block_size g) (omega (arith, size_large g)) (empty_cell g (fresh g I)) 0 (empty_good g (fresh g I)))

  -- The chain has the new block at its end.
  grown_held : HeldCells g (grown g I c.at) ((xs ++ (c ∷ [])) ++ (empty_cell g (fresh g I) ∷ []))
  unfolding J cells_at
  grown_held =
      let B : ℕ = block_size g in
      let w : ℕ = fresh g I in
      let more : (i : ℕ) → count i (places ((xs ++ (c ∷ [])) ++ (empty_cell g w ∷ []))) ≡ count i (places (xs ++ (c ∷ []))) + count i (w ∷ [])
      = λ i. count_places i (xs ++ (c ∷ [])) (empty_cell g w ∷ []) ∙ omega (arith, count_cell i (empty_cell g w) [], count_no_cell i) in
      record {
        shown = subst (λ (l : List Cell). ShowsAll B J (cell_pieces l)) (sym (append_assoc xs (c ∷ []) (empty_cell g w ∷ [])))
            (tail_shows B I J (omega (arith, size_large g)) xs (c ∷ []) (c ∷ (empty_cell g w ∷ [])) (all_left (GoodCell B) xs (c ∷ []) h.whole) front_same refl h.shown both_shown);
        whole = all_append (GoodCell B) (xs ++ (c ∷ [])) (empty_cell g w ∷ []) h.whole (empty_good g w, tt);
        once = λ i. once i more (ℕ_discrete i w);
        range = λ i q. range i more q (ℕ_discrete i w);
        has_bit = λ i q. has_bit i more q (ℕ_discrete i w);
        marked = λ i q. marked i more q (ℕ_discrete i w);
      }
    where
      More : Type 0
      More = (i : ℕ) → count i (places ((xs ++ (c ∷ [])) ++ (empty_cell g (fresh g I) ∷ []))) ≡ count i (places (xs ++ (c ∷ []))) + count i (fresh g I ∷ [])

      once : (i : ℕ) → More → Dec (i ≡ fresh g I) → count i (places ((xs ++ (c ∷ [])) ++ (empty_cell g (fresh g I) ∷ []))) ≤ 1
      once i more (yes e) =
          omega (arith, more i, ap (λ (x : ℕ). count x (places (xs ++ (c ∷ [])))) e, fresh_new, count_same i (fresh g I) [] e, count_none i)
      once i more (no e) = omega (arith, more i, h.once i, count_other i (fresh g I) [] e, count_none i)

      range : (i : ℕ) → More → 1 ≤ count i (places ((xs ++ (c ∷ [])) ++ (empty_cell g (fresh g I) ∷ []))) → Dec (i ≡ fresh g I) → (data_at g ≤ i) × (i < g.n)
      range i more q (yes e) = (omega (arith, fresh_low g I room), omega (arith, fresh_high g I room s))
      range i more q (no e) = h.range i (omega (arith, more i, count_other i (fresh g I) [] e, count_none i))

      has_bit : (i : ℕ) → More → 1 ≤ count i (places ((xs ++ (c ∷ [])) ++ (empty_cell g (fresh g I) ∷ []))) → Dec (i ≡ fresh g I) → i < data_at g + map_bits g
      has_bit i more q (yes e) = omega (arith, fresh_end g I room s)
      has_bit i more q (no e) = h.has_bit i (omega (arith, more i, count_other i (fresh g I) [] e, count_none i))

      marked : (i : ℕ) → More → 1 ≤ count i (places ((xs ++ (c ∷ [])) ++ (empty_cell g (fresh g I) ∷ []))) → Dec (i ≡ fresh g I) → mark g (grown g I c.at) (i - data_at g) ≡ 1
      marked i more q d =
          let r = range i more q d in
          let z : data_at g + (i - data_at g) ≡ i = omega (arith, r.0) in
          let m = grown-mark g I s room c.at last_in.0 last_in.1 (i - data_at g) (omega (arith, r.0, has_bit i more q d)) in
          let n = ap (λ (x : ℕ). count x (fresh g I ∷ [])) z in
          by d m n
        where
          by : Dec (i ≡ fresh g I) → mark g (grown g I c.at) (i - data_at g) ≡ mark g I (i - data_at g) + count (data_at g + (i - data_at g)) (fresh g I ∷ [])
              → count (data_at g + (i - data_at g)) (fresh g I ∷ []) ≡ count i (fresh g I ∷ []) → mark g (grown g I c.at) (i - data_at g) ≡ 1
          by (yes e) m n =
              omega (arith, m, n, ap (λ (x : ℕ). mark g I (x - data_at g)) e, fresh_clear g I room s, count_same i (fresh g I) [] e, count_none i)
          by (no e) m n =
              omega (arith, m, n, h.marked i (omega (arith, more i, count_other i (fresh g I) [] e, count_none i)), count_other i (fresh g I) [] e, count_none i)

-- ---- k blocks

extended_none : (g : Geo) (I : List ℕ) (last : ℕ) → extended g I last 0 ≡ I
unfolding extended
extended_none g I last = refl

extended-more : (g : Geo) (I : List ℕ) (last k : ℕ) → extended g I last (suc k) ≡ extended g (grown g I last) (fresh g I) k
unfolding extended
extended-more g I last k = refl

module _ (g : Geo) where
  taken_first : (I : List ℕ) (s : Sound g (length I)) (k : ℕ) → 1 ≤ length (clears g I) → (last : ℕ) → data_at g ≤ last → last < g.n
      → take (suc k) (clears g I) ≡ fresh g I ∷ take k (clears g (grown g I last))
  taken_first I s k r last low high =
      ap (take (suc k)) (fresh_head g I r) ∙ ap (λ (l : List ℕ). fresh g I ∷ take k l) (sym (grown-clears g I s r last low high))

  -- The chain goes on with the lowest free blocks, in their order.
  pub extended_held : (k : ℕ) (I : List ℕ) → Sound g (length I) → (xs : List Cell) (c : Cell) → HeldCells g I (xs ++ (c ∷ [])) → Room g I k
      → HeldCells g (extended g I c.at k) ((xs ++ (c ∷ [])) ++ empties g (take k (clears g I)))
  unfolding empties
  extended_held zero I s xs c h r =
      subst (λ (l : List Cell). HeldCells g (extended g I c.at 0) l) (sym (append-nil (xs ++ (c ∷ []))))
      (subst (λ (L : List ℕ). HeldCells g L (xs ++ (c ∷ []))) (sym (extended_none g I c.at)) h)
  extended_held (suc k) I s xs c h r =
      let one : 1 ≤ length (clears g I) = omega (arith, r.clear) in
      let l = last_in g I s xs c h one in
      let e : suc k ≡ k + 1 = omega arith in
      let ih = extended_held k (grown g I c.at) (grown_sound g I s one c.at l.0 l.1) (xs ++ (c ∷ [])) (empty_cell g (fresh g I)) (grown_held g I s xs c h one)
      (grown_room g I s one c.at l.0 l.1 k (subst (Room g I) e r)) in
      subst (λ (L : List ℕ). HeldCells g L ((xs ++ (c ∷ [])) ++ empties g (take (suc k) (clears g I)))) (sym (extended-more g I c.at k))
      (subst (λ (m : List ℕ). HeldCells g (extended g (grown g I c.at) (fresh g I) k) ((xs ++ (c ∷ [])) ++ empties g m)) (sym (taken_first I s k one c.at l.0 l.1))
      (subst (HeldCells g (extended g (grown g I c.at) (fresh g I) k)) (append_assoc (xs ++ (c ∷ [])) (empty_cell g (fresh g I) ∷ []) (empties g (take k (clears g (grown g I c.at))))) ih))

-- What else has changed: the link of the last block, the new blocks ws, their marks and the used count.
pub record Extended (g : Geo) (I J : List ℕ) (last : ℕ) (ws : List ℕ) : Type 0 where
  pub kept : Kept (block_size g) (λ b o. Aside g b o × (Off last 0 4 b o × (count b ws ≡ 0))) I J
  pub marks : (x : ℕ) → x < map_bits g → mark g J x ≡ mark g I x + count (data_at g + x) ws
  pub top : Shows I (block_size g * g.K) (super_bytes g (used_count g I)) → Shows J (block_size g * g.K) (super_bytes g (used_count g I + length ws))

module _ (g : Geo) where
  extended_same : (I : List ℕ) (last : ℕ) → Extended g I I last []
  extended_same I last =
      record {
        kept = kept_refl I;
        marks = λ x q. omega (arith, count_none (data_at g + x));
        top = λ t. let e : used_count g I ≡ used_count g I + 0 = omega arith in subst (λ (u : ℕ). Shows I (block_size g * g.K) (super_bytes g u)) e t;
      }

  extended_step : (I J : List ℕ) (s : Sound g (length I)) (one : 1 ≤ length (clears g I)) (last : ℕ) (low : data_at g ≤ last) (high : last < g.n) (ws : List ℕ) → used_count g I + 1 ≤ g.n
      → Extended g (grown g I last) J (fresh g I) ws → Extended g I J last (fresh g I ∷ ws)
  extended_step I J s one last low high ws u r =
      let w : ℕ = fresh g I in
      let used : used_count g (grown g I last) ≡ used_count g I + 1 = grown_used g I s one last low high u in
      record {
        kept = kept_trans (kept_less (λ b o p. (p.0, (p.1.0, λ e. omega (arith, p.1.1, count_same b w ws e)))) (grown_kept g I s one last low high))
            (kept_less (λ b o p. (p.0, (λ e _ _. omega (arith, p.1.1, count_same b w ws e), omega (arith, p.1.1, count_cons b w ws)))) r.kept);
        marks = λ x q. omega (arith, r.marks x q, grown-mark g I s one last low high x q, count_cons (data_at g + x) w ws);
        top = λ t.
            let a : Shows (grown g I last) (block_size g * g.K) (super_bytes g (used_count g (grown g I last)))
            = subst (λ (z : ℕ). Shows (grown g I last) (block_size g * g.K) (super_bytes g z)) (sym used) (grown_top g I s one last low high (used_count g I) t) in
            let e : used_count g (grown g I last) + length ws ≡ used_count g I + suc (length ws) = omega arith in
            subst (λ (z : ℕ). Shows J (block_size g * g.K) (super_bytes g z)) e (r.top a);
      }

  pub extended_is : (k : ℕ) (I : List ℕ) → Sound g (length I) → (last : ℕ) → data_at g ≤ last → last < g.n → Room g I k → Extended g I (extended g I last k) last (take k (clears g I))
  extended_is zero I s last low high r = subst (λ (L : List ℕ). Extended g I L last []) (sym (extended_none g I last)) (extended_same I last)
  extended_is (suc k) I s last low high r =
      let one : 1 ≤ length (clears g I) = omega (arith, r.clear) in
      let e : suc k ≡ k + 1 = omega arith in
      let ih = extended_is k (grown g I last) (grown_sound g I s one last low high) (fresh g I) (fresh_low g I one) (fresh_high g I one s) (grown_room g I s one last low high k (subst (Room g I) e r)) in
      subst (λ (L : List ℕ). Extended g I L last (take (suc k) (clears g I))) (sym (extended-more g I last k))
      (subst (Extended g I (extended g (grown g I last) (fresh g I) k) last) (sym (taken_first g I s k one last low high))
      (extended_step I (extended g (grown g I last) (fresh g I) k) s one last low high (take k (clears g (grown g I last))) (omega (arith, r.count)) ih))
