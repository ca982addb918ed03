-- A next address stored in a block of the data, and a block added: what each reader sees.
use mathlib.Core.Path.{◌≡◌, sym, ap, ◌∙◌}
use mathlib.Core.List.{List, [], ◌∷◌, ◌++◌}
use Prim.Native.Nat.{ℕ, ◌+◌, ◌-◌, ◌*◌, ◌≤◌, ◌<◌}
use native.Mathlib.Decide.{ℕ_discrete}
use native.Mathlib.Omega.{arith}
use lib.ListN.{length, drop, length-drop, length-append}
use Rattle.wire.specs.Be.{bytes}
use Rattle.wire.proofs.Numbers.{length_bytes}
use Rattle.bits.specs.Bit.{AllSet}
use Rattle.block.specs.Block.{cell, linked, Off, Kept}
use Rattle.block.proofs.Blocks.{kept_trans, kept_less, linked_kept}
use Rattle.model.specs.Render.{count, Shows}
use Rattle.model.specs.Geometry.{Geo, block_size, map_at, data_at, map_bits, bit_end, super_bytes, used_count, Sound}
use Rattle.model.proofs.Areas.{area, few, size_large, block_inside}
use Rattle.model.proofs.Counts.{count_same, count_other, count_none}
use Rattle.model.proofs.Demand.{whole_super}
use Rattle.model.proofs.Owns.{shows_kept}
use Rattle.bitmap_block.specs.Bitmap.{mark, clears, taken, Room, fresh}
use Rattle.bitmap_block.proofs.Stores.{mark_is, index_in, sound_kept, used_kept, mark_kept, clears_kept, Aside, aside_data, taken_kept, sound_taken, used_taken, top_taken, mark-taken, mark-taken_other, cell-taken, clears-taken, set-taken, fresh_index, fresh_first, fresh_data, fresh_clear}
use Rattle.write_store.specs.Write.{grown}
use Rattle.write_store.proofs.Cells.{relinked}

-- ---- a next address stored in a block of the data

module _ (g : Geo) (I : List ℕ) (s : Sound g (length I)) (a : ℕ) (low : data_at g ≤ a) (high : a < g.n) where
  pub link_kept : (v : ℕ) → Kept (block_size g) (Off a 0 4) I (linked (block_size g) I a v)
  link_kept v = linked_kept (block_size g) I a (omega (arith, size_large g)) (block_inside g (length I) s a high) v

  link_used : (v : ℕ) → used_count g (linked (block_size g) I a v) ≡ used_count g I
  link_used v = used_kept g I s _ _ (link_kept v) (λ o _ _ e _ _. omega (arith, (area g (length I) s).maps))

  pub link_mark : (v x : ℕ) → x < map_bits g → mark g (linked (block_size g) I a v) x ≡ mark g I x
  link_mark v x h = mark_kept g I s _ _ (link_kept v) (λ b o _ q e _ _. omega arith) x h

  link_clears : (v : ℕ) → clears g (linked (block_size g) I a v) ≡ clears g I
  link_clears v = clears_kept g I s _ _ (link_kept v) (λ b o _ q e _ _. omega arith)

  pub link_top : (v u : ℕ) → Shows I (block_size g * g.K) (super_bytes g u) → Shows (linked (block_size g) I a v) (block_size g * g.K) (super_bytes g u)
  link_top v u t =
      shows_kept (block_size g) _ I (linked (block_size g) I a v) g.K (super_bytes g u) (link_kept v)
      (λ o _ e _ _. omega (arith, (area g (length I) s).maps)) (omega (arith, whole_super g u)) t

-- ---- a block added

module _ (g : Geo) (I : List ℕ) (s : Sound g (length I)) (h : 1 ≤ length (clears g I)) where
  in_data : data_at g + (fresh g I - data_at g) < bit_end g
  in_data = fresh_data g I h s

  T : List ℕ
  T = taken g I (fresh g I - data_at g)

  T-sound : Sound g (length T)
  unfolding T
  T-sound = sound_taken g I s (fresh g I - data_at g) in_data

  module _ (last : ℕ) (low : data_at g ≤ last) (high : last < g.n) where
    -- every other byte is as it was
    pub grown_kept : Kept (block_size g) (λ b o. Aside g b o × (Off last 0 4 b o × (b ≡ fresh g I → ⊥))) I (grown g I last)
    unfolding grown T
    grown_kept =
        kept_trans (kept_less (λ b o p. (p.0, λ e. p.1.1 (e ∙ fresh_index g I h))) (taken_kept g I s (fresh g I - data_at g) in_data))
        (kept_less (λ b o p. p.1.0) (unfold T in link_kept g T T-sound last low high (fresh g I)))

    pub grown_sound : Sound g (length (grown g I last))
    grown_sound = sound_kept g I s _ _ grown_kept

    pub grown_used : used_count g I + 1 ≤ g.n → used_count g (grown g I last) ≡ used_count g I + 1
    unfolding grown T
    grown_used u =
        (unfold T in link_used g T T-sound last low high (fresh g I)) ∙ used_taken g I s (fresh g I - data_at g) in_data (omega (arith, few g (length I) s))

    pub grown-clears : clears g (grown g I last) ≡ drop 1 (clears g I)
    unfolding grown T
    grown-clears =
        (unfold T in link_clears g T T-sound last low high (fresh g I)) ∙ clears-taken g I s (fresh g I - data_at g) (drop 1 (clears g I)) (fresh_first g I h)

    pub grown_room : (k : ℕ) → Room g I (k + 1) → Room g (grown g I last) k
    grown_room k r = record {
      clear = rw (grown-clears, length-drop) (omega (arith, r.clear));
      count = omega (arith, r.count, grown_used (omega (arith, r.count)));
    }

    pub grown-mark : (y : ℕ) → y < map_bits g → mark g (grown g I last) y ≡ mark g I y + count (data_at g + y) (fresh g I ∷ [])
    unfolding grown T
    grown-mark y q = (unfold T in link_mark g T T-sound last low high (fresh g I) y q) ∙ go (ℕ_discrete y (fresh g I - data_at g))
      where
        go : Dec (y ≡ fresh g I - data_at g) → mark g (taken g I (fresh g I - data_at g)) y ≡ mark g I y + count (data_at g + y) (fresh g I ∷ [])
        go (yes e) =
            let a = ap (mark g (taken g I (fresh g I - data_at g))) e ∙ mark-taken g I s (fresh g I - data_at g) in_data in
            let b = ap (mark g I) e ∙ fresh_clear g I h s in
            omega (arith, a, b, count_same (data_at g + y) (fresh g I) [] (omega (arith, fresh_index g I h)), count_none (data_at g + y))
        go (no e) =
            omega (
              arith,
              mark-taken_other g I s (fresh g I - data_at g) in_data y q e,
              count_other (data_at g + y) (fresh g I) [] (λ z. e (omega arith)),
              count_none (data_at g + y),
            )

    -- all up to it are set, so the next search may begin above it
    pub grown-set : AllSet (grown g I last) (block_size g * map_at g) 0 (fresh g I - data_at g + 1)
    unfolding grown T
    grown-set y p q =
        sym (mark_is g (grown g I last) y)
        ∙ (unfold T grown in link_mark g T T-sound last low high (fresh g I) y (index_in g (length I) s y (omega (arith, in_data))))
        ∙ mark_is g (taken g I (fresh g I - data_at g)) y
        ∙ set-taken g I s (fresh g I - data_at g) (drop 1 (clears g I)) (fresh_first g I h) y p q

    pub grown_top : (u : ℕ) → Shows I (block_size g * g.K) (super_bytes g u) → Shows (grown g I last) (block_size g * g.K) (super_bytes g (used_count g I + 1))
    unfolding grown T
    grown_top u t = unfold T in link_top g T T-sound last low high (fresh g I) (used_count g I + 1) (top_taken g I s (fresh g I - data_at g) in_data u t)

    -- its bytes are zero
    pub grown_zero : (fresh g I ≡ last → ⊥) → (o : ℕ) → o < block_size g → cell (block_size g) (grown g I last) (fresh g I) o ≡ 0
    unfolding grown T
    grown_zero d o q =
        (unfold T in (link_kept g T T-sound last low high (fresh g I)).at (fresh g I) o (λ e _ _. d e) q)
        ∙ ap (λ (b : ℕ). cell (block_size g) (taken g I (fresh g I - data_at g)) b o) (sym (fresh_index g I h))
        ∙ cell-taken g I s (fresh g I - data_at g) in_data o q

    -- and the block before it has its address
    pub grown_links : (fresh g I ≡ last → ⊥) → (z : ℕ) (body : List ℕ) → 4 + length body ≤ block_size g → Shows I (block_size g * last) (bytes 4 z ++ body)
        → Shows (grown g I last) (block_size g * last) (bytes 4 (fresh g I) ++ body)
    unfolding grown T
    grown_links d z body q t =
        unfold T in relinked (block_size g) T last z (fresh g I) body (omega (arith, size_large g)) (block_inside g (length T) T-sound last high)
        (unfold T in shows_kept (block_size g) _ I T last (bytes 4 z ++ body) (taken_kept g I s (fresh g I - data_at g) in_data)
        (λ o _. (aside_data g (length I) s last o low, λ e. d (sym (e ∙ fresh_index g I h)))) (omega (arith, length-append (bytes 4 z) body, length_bytes 4 z)) t)
