-- Stores in a directory, and then its own entry renewed, or none where it is the root: the image is the volume of the edited tree.
use mathlib.Core.Path.{◌≡◌, refl, sym, ap, ◌∙◌, subst}
use mathlib.Core.Option.{Option, some}
use mathlib.Core.List.{List, [], ◌∷◌}
use Prim.Native.Nat.{ℕ, zero, suc, ◌+◌, ◌^◌, ◌≤◌, ◌<◌}
use native.Mathlib.Omega.{arith}
use lib.ListN.{length}
use Rattle.block.specs.Block.{cell, Off, Kept}
use Rattle.block.proofs.Blocks.{kept_trans, kept_less}
use Rattle.model.specs.Tree.{Name, Tree, sum, Edit, edit, Some, find}
use Rattle.model.specs.Render.{blocks_at, render, count, blocks, Wiped, own_time}
use Rattle.model.specs.Geometry.{area_of, Geo, block_size, map_at, data_at, map_bits, super_bytes, Sound}
use Rattle.model.specs.Volume.{Volume}
use Rattle.model.specs.Calls.{Makes}
use Rattle.model.proofs.Areas.{area, size_large}
use Rattle.model.proofs.Commit.{Commit, commit, commit_root}
use Rattle.model.proofs.Counts.{count_self, tally}
use Rattle.model.proofs.Cuts.{OwnCut, own_cut}
use Rattle.model.proofs.Demand.{whole_super}
use Rattle.model.proofs.Frame.{SameBlock, shows_frame, blocks-edit, cut_within, cut_old, cut_new}
use Rattle.model.proofs.Full.{whole_tree}
use Rattle.model.proofs.Lists.{not_some}
use Rattle.model.proofs.Owns.{renewed_at, shows_kept, own_kept, own_renewed_lem}
use Rattle.model.proofs.Paths.{sub_in}
use Rattle.bitmap_block.specs.Bitmap.{mark}
use Rattle.bitmap_block.proofs.Stores.{mark_is, mark_kept}
use Rattle.dir_entry.specs.Entry.{place_at}
use Rattle.std.specs.Prelude.{Result}
use Rattle.std.specs.declared.option.Option.TheVariants as option
use Rattle.limits.specs.declared.Damage.{Damage}
use Rattle.read_dir.specs.Walk.{walk}
use Rattle.read_dir.specs.Finds.{sum_from}
use Rattle.thm_walk.proofs.Parts.{Part}
use Rattle.thm_walk.proofs.Walks.{part_sum}
use Rattle.own_entry.specs.Own.{Own, own_renewed, own_summed, sum_renewed, OwnOf}

-- What is so of J, in which all is stored but the directory's own entry: s is the directory, and u what it becomes.
pub record Made (g : Geo) (I J : List ℕ) (d : ℕ) (t : Tree d) (e : ℕ) (s u : Tree e) : Type 0 where
  pub commit : Commit g I J d t e s u
  pub others : (b : ℕ) → 1 ≤ count b (blocks (block_size g) d t) → count b (blocks (block_size g) e s) ≡ 0 → SameBlock (block_size g) I J b
  pub wiped : (b : ℕ) → 1 ≤ count b (blocks (block_size g) e s) → count b (blocks (block_size g) e u) ≡ 0 → Wiped (block_size g) J b
  pub frame : Kept (block_size g) (λ b o. (b ≡ g.K → ⊥) × (map_at g ≤ b → b < data_at g → ⊥) × (count b (blocks (block_size g) e u) + count b (blocks (block_size g) e s) ≡ 0)) I J

-- The blocks of a directory at a path are among the tree's.
pub sub-blocks : (B d : ℕ) (p : List Name) (t : Tree d) (s : Some) → find d p t ≡ some s → (i : ℕ) → count i (blocks B s.0 s.1) ≤ count i (blocks B d t)
unfolding tally
sub-blocks B d p t s f i = sub_in B i d p t s f

-- The root has no entry of its own.
root_makes : (g : Geo) (I J : List ℕ) (d : ℕ) (t u : Tree d) → Volume g I d t → Made g I J d t d t u → Makes g d t u I J
root_makes g I J d t u v m = record {
  volume = commit_root g I J d t u v m.commit;
  wiped = m.wiped;
  frame = kept_less (λ b o h. (h.0.not_super, h.0.not_map, omega (arith, h.0.not_reached, h.1))) m.frame;
}

module _ (g : Geo) (I J : List ℕ) (d : ℕ) (t : Tree d) (n : Name) (p : List Name) (now : ℕ) (f : Edit) (s : Some)
    (v : Volume g I d t) (h : find d (n ∷ p) t ≡ some s) (m : Made g I J d t s.0 s.1 (f s.0 s.1))
    (c : OwnCut (block_size g) d (n ∷ p) (λ _. now) f t s) where
  -- the image with the own entry renewed
  K : List ℕ
  K = renewed_at J c.place (sum (f s.0 s.1)) now

  long : length J ≡ length I
  long = m.commit.long

  own_only : Kept (block_size g) (Off c.cut.at (4 + length c.cut.low + 5) 12) J K
  unfolding K
  own_only = own_kept g I d t (n ∷ p) (λ _. now) f s v c J long (sum (f s.0 s.1)) now

  -- the own entry's block is one of the tree's, before and after, and none of the directory's
  in_tree : 1 ≤ count c.cut.at (blocks (block_size g) d t)
  in_tree = cut_old _ _ _ _ _ _ _ _ c.cut

  in_new : 1 ≤ count c.cut.at (blocks (block_size g) d (edit d (n ∷ p) (λ _. now) f t))
  in_new = cut_new _ _ _ _ _ _ _ _ c.cut

  not_own : count c.cut.at (blocks (block_size g) s.0 s.1) ≡ 0
  not_own = omega (arith, cut_within _ _ _ _ _ _ _ _ c.cut c.cut.at, count_self c.cut.at, v.laid.once c.cut.at)

  in_data : data_at g ≤ c.cut.at
  in_data = (v.laid.range c.cut.at in_tree).0

  -- another block is as before
  other : (b : ℕ) → (b ≡ c.cut.at → ⊥) → SameBlock (block_size g) J K b
  unfolding cell
  other b q i l = own_only.at b i (λ e x y. q e) l

  -- a block of the directory is another, before
  of_dir : (b : ℕ) → 1 ≤ count b (blocks (block_size g) s.0 s.1) → b ≡ c.cut.at → ⊥
  of_dir b q e = omega (arith, q, ap (λ (z : ℕ). count z (blocks (block_size g) s.0 s.1)) e, not_own)

  -- and after
  of_new : (b : ℕ) → 1 ≤ count b (blocks (block_size g) s.0 (f s.0 s.1)) → b ≡ c.cut.at → ⊥
  of_new b q e =
      omega (
        arith,
        q,
        ap (λ (z : ℕ). count z (blocks (block_size g) s.0 (f s.0 s.1))) e,
        m.commit.fresh c.cut.at,
        in_tree,
        not_own,
      )

  bits_same : (x : ℕ) → x < map_bits g → mark g K x ≡ mark g J x
  bits_same x q = mark_kept g J (subst (Sound g) (sym long) v.laid.sound) _ K own_only (λ b o y l e i j. omega (arith, in_data)) x q

  commit_own : Commit g I K d t s.0 s.1 (f s.0 s.1)
  commit_own =
      let B : ℕ = block_size g in
      let o : Commit g I J d t s.0 s.1 (f s.0 s.1) = m.commit in
      record {
        long = own_only.size ∙ long;
        total = o.total;
        moved = o.moved;
        top = shows_kept B _ J K g.K (super_bytes g o.total) own_only (λ i _ e x y. omega (arith, in_data, (area g (length I) v.laid.sound).maps)) (omega (arith, whole_super g o.total)) o.top;
        bits = λ x q. omega (arith, o.bits x q, bits_same x q, mark_is g J x, mark_is g K x);
        fresh = o.fresh;
        inside = o.inside;
        has_bit = o.has_bit;
        first = o.first;
        good = o.good;
        shown = shows_frame B J K (render B s.0 (f s.0 s.1)) (whole_tree B (omega (arith, size_large g)) s.0 (f s.0 s.1) o.good) (λ b q. other b (of_new b q)) o.shown;
      }

  -- what is reached no longer was reached in the directory, and is not there; what is reached neither before nor after is not in it
  edited : (b : ℕ) → count b (blocks (block_size g) d (edit d (n ∷ p) (λ _. now) f t)) + count b (blocks (block_size g) s.0 s.1)
      ≡ count b (blocks (block_size g) d t) + count b (blocks (block_size g) s.0 (f s.0 s.1))
  edited b = blocks-edit (block_size g) d (n ∷ p) (λ _. now) f t s h b

  fewer : (b : ℕ) → count b (blocks (block_size g) s.0 s.1) ≤ count b (blocks (block_size g) d t)
  fewer b = sub-blocks (block_size g) d (n ∷ p) t s h b

  wiped_own : (b : ℕ) → 1 ≤ count b (blocks (block_size g) d t) → count b (blocks (block_size g) d (edit d (n ∷ p) (λ _. now) f t)) ≡ 0 → Wiped (block_size g) K b
  wiped_own b q z i l =
      let in_dir_lem : 1 ≤ count b (blocks (block_size g) s.0 s.1) = omega (arith, edited b) in
      let gone : count b (blocks (block_size g) s.0 (f s.0 s.1)) ≡ 0 = omega (arith, edited b, fewer b, v.laid.once b) in
      other b (of_dir b in_dir_lem) i l ∙ m.wiped b in_dir_lem gone i l

  below_makes : now < 2 ^ 64 → Makes g d t (edit d (n ∷ p) (λ _. now) f t) I (renewed_at J c.place (sum (f s.0 s.1)) now)
  unfolding K cell
  below_makes small =
      let B : ℕ = block_size g in
      let same : Kept B (λ b o. b ≡ c.cut.at) I J
      = record { size = long; at = λ b o e l. m.others b (subst (λ (z : ℕ). 1 ≤ count z (blocks B d t)) (sym e) in_tree) (ap (λ (z : ℕ). count z (blocks B s.0 s.1)) e ∙ not_own) o l } in
      record {
        volume = commit g I K d t n p (λ _. now) f s v h commit_own (λ _ _. small) c
            (λ b q z e i l. other b e i l ∙ m.others b q z i l)
            (own_renewed_lem g I d t (n ∷ p) (λ _. now) f s v c J same m.commit.first);
        wiped = wiped_own;
        frame = kept_trans (kept_less (λ b o q. (q.0.not_super, q.0.not_map, omega (arith, q.0.not_reached, q.1, edited b, fewer b))) m.frame)
            (kept_less (λ b o q e x y. omega (arith, in_new, q.0.not_reached, ap (λ (z : ℕ). count z (blocks B d (edit d (n ∷ p) (λ _. now) f t))) e)) own_only);
      }

-- ---- both

-- the own entry stands at one place
some_one : (a b : ℕ) (o : Option ℕ) → o ≡ some a → o ≡ some b → a ≡ b
some_one a b o x y = let both : some a ≡ some b = sym x ∙ y in cc

-- The sum and the time stand in the own entry, and the image is the volume of the edited tree.
renewed_makes : (g : Geo) (I J : List ℕ) (d : ℕ) (t : Tree d) (p : List Name) (now : ℕ) (f : Edit) (s : Some) (own : Own) → Volume g I d t → find d p t ≡ some s
    → Made g I J d t s.0 s.1 (f s.0 s.1) → OwnOf (block_size g) d p t own → now < 2 ^ 64
    → Makes g d t (edit d p (λ _. now) f t) I (own_renewed (block_size g) J own (sum (f s.0 s.1)) now)
unfolding find edit own_time
renewed_makes g I J zero t [] now f s option.None v h m o small =
    let k : (zero, t) ≡ s = cc in
    root_makes g I J zero t (f zero t) v (subst (λ (z : Some). Made g I J zero t z.0 z.1 (f z.0 z.1)) (sym k) m)
renewed_makes g I J (suc d) t [] now f s option.None v h m o small =
    let k : (suc d, t) ≡ s = cc in
    root_makes g I J (suc d) t (f (suc d) t) v (subst (λ (z : Some). Made g I J (suc d) t z.0 z.1 (f z.0 z.1)) (sym k) m)
renewed_makes g I J zero t [] now f s (option.Some q) v h m o small = absurd (not_some refl o)
renewed_makes g I J (suc d) t [] now f s (option.Some q) v h m o small = absurd (not_some refl o)
renewed_makes g I J d t (n ∷ p) now f s option.None v h m o small = let z : suc (length p) ≡ 0 = ap length o in absurd (omega arith)
renewed_makes g I J d t (n ∷ p) now f s (option.Some q) v h m o small =
    let c = own_cut (block_size g) d n p (λ _. now) f t s h in
    let e : c.place + 9 ≡ place_at (block_size g) q.block.0 q.offset + 9 = some_one _ _ (own_time (block_size g) d (n ∷ p) t) c.own o in
    let k : c.place ≡ place_at (block_size g) q.block.0 q.offset = omega arith in
    subst (λ (z : ℕ). Makes g d t (edit d (n ∷ p) (λ _. now) f t) I (renewed_at J z (sum (f s.0 s.1)) now)) k (below_makes g I J d t n p now f s v h m c small)

-- The sum that is read of the directory then is that of what it becomes: the whole of it.
pub sum_makes : (g : Geo) (I J : List ℕ) (d : ℕ) (t : Tree d) (p : List Name) (now : ℕ) (f : Edit) (s : Some) (own : Own) → Volume g I d t → find d p t ≡ some s
    → Made g I J d t s.0 s.1 (f s.0 s.1) → OwnOf (block_size g) d p t own → now < 2 ^ 64
    → Makes g d t (edit d p (λ _. now) f t) I (sum_renewed g J (blocks_at s.1) own now)
unfolding sum_renewed
sum_makes g I J d t p now f s own v h m o small =
    let c : Commit g I J d t s.0 s.1 (f s.0 s.1) = m.commit in
    let q : Part g J s.0 (f s.0 s.1) = record {
      sound = subst (Sound g) (sym c.long) v.laid.sound;
      stored = record { shown = c.shown; once = λ i. omega (arith, c.fresh i, sub-blocks (block_size g) d p t s h i); range = c.inside };
      good = c.good;
    } in
    let e = ap (λ (a : ℕ). sum_from 0 (walk (area_of g) J a)) (sym c.first) ∙ part_sum g J s.0 (f s.0 s.1) q in
    subst (λ (z : Result ℕ Damage). Makes g d t (edit d p (λ _. now) f t) I (own_summed (block_size g) J own now z)) (sym e)
    (renewed_makes g I J d t p now f s own v h m o small)
