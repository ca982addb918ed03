-- After the blocks of an entry are given back: bits, count and directory are what a commit asks for, and what else stays.
use mathlib.Core.Path.{◌≡◌, sym, ◌∙◌, subst}
use mathlib.Core.Option.{some}
use mathlib.Core.List.{List, [], ◌∷◌}
use Prim.Native.Nat.{ℕ, zero, suc, ◌+◌, ◌-◌, ◌*◌, ◌≤◌, ◌<◌}
use native.Mathlib.Omega.{arith}
use native.Mathlib.Decide.{dec_lt}
use lib.ListN.{length}
use Rattle.bits.specs.Bit.{bit}
use Rattle.block.specs.Block.{cell, Kept}
use Rattle.block.proofs.Blocks.{kept_trans, kept_less}
use Rattle.model.specs.Tree.{Name, Tree, Some, find}
use Rattle.model.specs.Render.{blocks_at, render, count, blocks, Shows}
use Rattle.model.specs.Geometry.{Geo, block_size, map_at, data_at, map_bits, super_bytes, used_count, Sound}
use Rattle.model.specs.Volume.{GoodTree, Volume}
use Rattle.model.proofs.Areas.{area, few, size_large, volume_laid, laid_in}
use Rattle.model.proofs.Commit.{cut_shorter}
use Rattle.model.proofs.Cuts.{own_cut}
use Rattle.model.proofs.Demand.{whole_super}
use Rattle.model.proofs.Frame.{SameBlock, shows_frame}
use Rattle.model.proofs.Full.{whole_tree}
use Rattle.model.proofs.OneVolume.{used_in, used_is}
use Rattle.model.proofs.Owns.{shows_kept}
use Rattle.bitmap_block.specs.Bitmap.{mark}
use Rattle.bitmap_block.proofs.Stores.{Aside, aside_data, aside_other, mark_is, sound_kept, used_kept, mark_kept}
use Rattle.own_entry.proofs.Renews.{Made, sub-blocks}
use Rattle.delete_store.proofs.Frees.{all_released, Within, Given, all_kept, all_given}
use Rattle.delete_store.proofs.BlockStays.{Without}

-- A directory at a path reaches no more blocks than the tree.
sub_long : (B d : ℕ) (p : List Name) (t : Tree d) (s : Some) → find d p t ≡ some s → length (blocks B s.0 s.1) ≤ length (blocks B d t)
unfolding find
sub_long B zero [] t s f = let k : (zero, t) ≡ s = cc in subst (λ (z : Some). length (blocks B z.0 z.1) ≤ length (blocks B zero t)) k (omega arith)
sub_long B (suc d) [] t s f = let k : (suc d, t) ≡ s = cc in subst (λ (z : Some). length (blocks B z.0 z.1) ≤ length (blocks B (suc d) t)) k (omega arith)
sub_long B d (n ∷ p) t s f = cut_shorter B _ _ _ _ _ _ _ (own_cut B d n p (λ k. k) (λ e x. x) t s f).cut

module _ (g : Geo) (I : List ℕ) (d : ℕ) (t : Tree d) (v : Volume g I d t) (p : List Name) (s : Some) (f : find d p t ≡ some s) where
  -- its blocks are among the tree's
  fewer : (i : ℕ) → count i (blocks (block_size g) s.0 s.1) ≤ count i (blocks (block_size g) d t)
  fewer = sub-blocks (block_size g) d p t s f

  module _ (u : Tree s.0) (bare gone W : List ℕ) (w : Without g I W s.0 s.1 u bare gone) where
    -- only blocks of the data were stored to
    touched_data : (b : ℕ) → (data_at g ≤ b → b < g.n → ⊥) → count b w.touched ≡ 0
    touched_data b h = go (dec_lt 0 (count b w.touched))
      where
        go : Dec (0 < count b w.touched) → count b w.touched ≡ 0
        go (yes q) = let r = v.laid.range b (omega (arith, w.among b q, fewer b)) in absurd (h r.0 r.1)
        go (no q) = omega arith

    sound : Sound g (length W)
    sound = sound_kept g I v.laid.sound _ W w.kept

    -- so bitmap and superblock are as they were
    marks_before : (x : ℕ) → x < map_bits g → mark g W x ≡ count (data_at g + x) (blocks (block_size g) d t)
    marks_before x q =
        mark_kept g I v.laid.sound _ W w.kept (λ b o h l. touched_data b (λ y z. omega arith)) x q
        ∙ mark_is g I x ∙ v.marked x q

    used_before : used_count g W ≡ data_at g + length (blocks (block_size g) d t)
    used_before =
        used_kept g I v.laid.sound _ W w.kept (λ o _ _. touched_data g.K (λ y z. omega (arith, (area g (length I) v.laid.sound).maps)))
        ∙ used_is g I d t v

    top_before : Shows W (block_size g * g.K) (super_bytes g (data_at g + length (blocks (block_size g) d t)))
    top_before =
        shows_kept (block_size g) _ I W g.K (super_bytes g (data_at g + length (blocks (block_size g) d t))) w.kept (λ o _. touched_data g.K (λ y z. omega (arith, (area g (length I) v.laid.sound).maps)))
        (omega (arith, whole_super g (data_at g + length (blocks (block_size g) d t)))) (volume_laid g I d t v).top

    within : Within g gone
    within i h = laid_in g I d t _ v.laid i (omega (arith, h, w.counts i, fewer i))

    -- what stays in the count
    total : ℕ
    total = data_at g + length (blocks (block_size g) d t) - length gone

    counted : total + length gone ≡ data_at g + length (blocks (block_size g) d t)
    unfolding total
    counted = omega (arith, w.long, sub_long (block_size g) d p t s f)

    J : List ℕ
    J = all_released g W gone

    given : Given g W J total gone
    unfolding J
    given =
        all_given g gone W total sound within (omega (arith, used_before, used_in g I d t v, few g (length I) v.laid.sound)) (used_before ∙ sym counted)
        (subst (λ (z : ℕ). Shows W (block_size g * g.K) (super_bytes g z)) (sym counted) top_before)
        (λ x q. omega (arith, marks_before x q, w.counts (data_at g + x), fewer (data_at g + x)))

    freed_kept : Kept (block_size g) (λ b o. Aside g b o × (count b gone ≡ 0)) W J
    unfolding J
    freed_kept = all_kept g gone W sound within

    -- a block of the data that stays is as before the freeing
    data_same : (b : ℕ) → data_at g ≤ b → count b gone ≡ 0 → SameBlock (block_size g) W J b
    unfolding cell
    data_same b h z i l = freed_kept.at b i (aside_data g (length W) sound b i h, z) l

    -- what the directory reaches neither before nor after is as it was
    unseen : (b : ℕ) → count b (blocks (block_size g) s.0 s.1) ≡ 0 → (count b w.touched ≡ 0) × (count b gone ≡ 0)
    unseen b z = (go (dec_lt 0 (count b w.touched)), omega (arith, z, w.counts b))
      where
        go : Dec (0 < count b w.touched) → count b w.touched ≡ 0
        go (yes q) = absurd (omega (arith, w.among b q))
        go (no q) = omega arith

    both : Kept (block_size g) (λ b o. Aside g b o × (count b (blocks (block_size g) s.0 s.1) ≡ 0)) I J
    both = kept_trans (kept_less (λ b o h. (unseen b h.1).0) w.kept) (kept_less (λ b o h. (h.0, (unseen b h.1).1)) freed_kept)

    bits_after : (x : ℕ) → x < map_bits g
        → bit J (block_size g * map_at g) x + count (data_at g + x) (blocks (block_size g) s.0 s.1) ≡ bit I (block_size g * map_at g) x + count (data_at g + x) (blocks (block_size g) s.0 u)
    bits_after x q = omega (arith, sym (mark_is g J x), given.marks x q, marks_before x q, v.marked x q, w.counts (data_at g + x))

    pub made : blocks_at u ≡ blocks_at s.1 → GoodTree (block_size g) s.0 u → Made g I (all_released g W gone) d t s.0 s.1 u
    unfolding J cell
    made first good =
        let B : ℕ = block_size g in
        record {
          commit = record {
            long = both.size;
            total = total;
            moved = omega (arith, counted, w.long);
            top = given.top;
            bits = bits_after;
            fresh = λ i. omega (arith, w.counts i, v.laid.once i, fewer i);
            inside = λ i h. v.laid.range i (omega (arith, h, w.counts i, fewer i));
            has_bit = λ i h. v.laid.bits i (omega (arith, h, w.counts i, fewer i));
            first = first;
            good = good;
            shown = shows_frame B W J (render B s.0 u) (whole_tree B (omega (arith, size_large g)) s.0 u good)
                (λ b h. data_same b (v.laid.range b (omega (arith, h, w.counts b, fewer b))).0 (omega (arith, h, w.counts b, fewer b, v.laid.once b))) w.shown;
          };
          others = λ b h z i l. both.at b i (aside_data g (length I) v.laid.sound b i (v.laid.range b h).0, z) l;
          wiped = λ b h z. given.wiped b (omega (arith, h, z, w.counts b));
          frame = kept_less (λ b o h. (aside_other g b o h.0 h.1, omega (arith, h.2))) both;
        }
