-- The stores of a delete are the edit of the model: every byte is as `Deletes` has it.
use mathlib.Core.Path.{◌≡◌, refl, sym, ap, ◌∙◌, subst}
use mathlib.Core.Bool.{true, false}
use mathlib.Core.Logic.{◌⊎◌, inl, inr}
use mathlib.Core.Option.{some}
use mathlib.Core.List.{List, [], ◌∷◌, ◌++◌}
use Prim.Native.Nat.{ℕ, ◌+◌, ◌-◌, ◌^◌, ◌≤◌, ◌<◌}
use native.Mathlib.Decide.{dec_lt}
use native.Mathlib.Omega.{arith}
use lib.ListN.{length}
use Rattle.wire.proofs.Picks.{either, pick_true, pick_false}
use Rattle.block.specs.Block.{cell}
use Rattle.model.specs.Tree.{Name, Entry, Block, Below, Tree, holds, lookup, fill, less_first, called, delete_later, delete, edit, Some, find, Bare}
use Rattle.model.specs.Render.{Piece, View, blocks_at, node_pieces, view, render, ats, count, blocks}
use Rattle.model.specs.Geometry.{Geo, block_size, data_at, bit_end, Sound}
use Rattle.model.specs.Volume.{All, GoodEntry, GoodBelow, Volume}
use Rattle.model.specs.Calls.{deleted, Makes, TreeDeletes}
use Rattle.model.proofs.Areas.{size_large, laid_in}
use Rattle.model.proofs.Counts.{count_same, count_none, count_cons}
use Rattle.model.proofs.Cuts.{Cut, cut_here}
use Rattle.model.proofs.Frame.{SameBlock, shows_frame, cut_within}
use Rattle.model.proofs.Full.{Whole, whole_tree, good_lookup}
use Rattle.model.proofs.Good.{good_delete}
use Rattle.model.proofs.Lists.{all_left, all_right}
use Rattle.dir_entry.specs.declared.DirEntry.{DirEntry}
use Rattle.dir_entry.specs.Shown.{head_of}
use Rattle.read_dir.specs.declared.Place.{Place}
use Rattle.thm_walk.specs.Shown.{spot_of}
use Rattle.thm_walk.proofs.Parts.{Stored, Part, laid_part, part_find, stored_lookup, stored_few}
use Rattle.own_entry.specs.Own.{Own, OwnOf, sum_renewed}
use Rattle.own_entry.proofs.Renews.{Made, sub-blocks, sum_makes}
use Rattle.delete_store.specs.Delete.{entry_gone, removed}
use Rattle.chain_store.specs.Chain.{released, chain_freed}
use Rattle.delete_store.proofs.Frees.{all_released, chain-released, released_kept, released_block}
use Rattle.delete_store.proofs.Sites.{Stays, Goes, delete_site}
use Rattle.delete_store.proofs.BlockStays.{Without, stayed, stays_without, stays_is}
use Rattle.delete_store.proofs.Unlinks.{unlinked_from, goes_without, goes_is}
use Rattle.delete_store.proofs.Nodes.{node_chained}
use Rattle.delete_store.proofs.GivenBack.{made}

-- ---- the directory without the entry begins where it did

pub delete_at : {X : Type 0} (n : Name) (bs : List (Block X)) → blocks_at (delete n bs) ≡ blocks_at bs
unfolding delete blocks_at
delete_at n [] = refl
delete_at n (b ∷ bs) = go (either (holds n b))
  where
    go : (holds n b ≡ true) ⊎ (holds n b ≡ false) → blocks_at (delete n (b ∷ bs)) ≡ b.at
    go (inl c) = ap blocks_at (pick_true (fill (less_first (called n)) b ∷ bs) (b ∷ delete_later n bs) c)
    go (inr c) = ap blocks_at (pick_false (fill (less_first (called n)) b ∷ bs) (b ∷ delete_later n bs) c)

-- ---- the pieces of an entry that a name gives are whole blocks

-- what has all pieces of a cut has those that it replaces
cut_all : (P : Piece → Type 0) (B : ℕ) (xs ys us vs : List Piece) (q : ℕ) (E E' : List ℕ) → Cut B xs ys us vs q E E' → All P xs → All P us
cut_all P B xs ys us vs q E E' c h =
    all_left P us c.after (all_right P c.between (us ++ c.after) (all_right P c.before (_ ∷ (c.between ++ (us ++ c.after))) (subst (All P) c.old h)).1)

-- ---- all but the own entry

module _ (g : Geo) (I : List ℕ) (d : ℕ) (t : Tree d) (v : Volume g I d t) (p : List Name) (n : Name) (s : Some) (f : find d p t ≡ some s)
    (e : Entry (Below s.0)) (l : lookup n s.1 ≡ some e) (bare : Bare s.0 e.node) where
  abbrev shows : View (Below s.0)
  shows = view (block_size g) s.0

  part : Part g I s.0 s.1
  part = part_find g I d p t s (laid_part g I d t _ v.laid) f

  node : List Piece
  node = node_pieces shows e.node

  good : GoodEntry (block_size g) (GoodBelow (block_size g) s.0) e
  good = good_lookup (block_size g) (GoodBelow (block_size g) s.0) n s.1 e part.good l

  stored : Stored g I node
  unfolding render node
  stored = stored_lookup g I shows n s.1 e l part.stored

  whole : All (Whole (block_size g)) node
  unfolding render node
  whole =
      cut_all (Whole (block_size g)) _ _ _ _ _ _ _ _ (cut_here (block_size g) shows n (λ x. x) s.1 e l)
      (whole_tree (block_size g) (omega (arith, size_large g)) s.0 s.1 part.good)

  -- each has a bit
  node_in : (i : ℕ) → 1 ≤ count i (ats node) → (data_at g ≤ i) × (i < bit_end g)
  unfolding render node
  node_in i h =
      laid_in g I d t _ v.laid i
      (omega (arith, h, cut_within _ _ _ _ _ _ _ _ (cut_here (block_size g) shows n (λ x. x) s.1 e l) i, sub-blocks (block_size g) d p t s f i))

  -- the entry's chain freed in an image that has its blocks as they were
  chain_gone : (W : List ℕ) → length W ≡ length I → ((b : ℕ) → 1 ≤ count b (ats node) → SameBlock (block_size g) I W b)
      → chain_freed g W (g.n - data_at g) (head_of shows e).addr.0 ≡ all_released g W (ats node)
  unfolding head_of node
  chain_gone W q h =
      let c = node_chained (block_size g) s.0 e.node good.below bare in
      ap (chain_freed g W (g.n - data_at g)) (sym c.1)
      ∙ chain-released g (node_pieces shows e.node) (g.n - data_at g) W (subst (Sound g) (sym q) v.laid.sound) c.0 (unfold node in whole)
      (shows_frame (block_size g) I W (node_pieces shows e.node) (unfold node in whole) h (unfold node in stored.shown)) (unfold node in node_in) (unfold node in stored.once)
      (unfold node in stored_few g I node stored)

  -- The image J before the own entry is renewed.
  record Before (J : List ℕ) : Type 0 where
    pub is : chain_freed g (entry_gone g I (blocks_at s.1) (head_of shows e) (spot_of n s.1)) (g.n - data_at g) (head_of shows e).addr.0 ≡ J
    pub as_made : Made g I J d t s.0 s.1 (delete n s.1)

  -- where the block stays
  before_stays : Stays n e s.1 → (J : List ℕ) × Before J
  unfolding node ats cell
  before_stays st =
      let B : ℕ = block_size g in
      let W : List ℕ = stayed g I s.0 s.1 part n e st in
      let w : Without g I W s.0 s.1 (delete n s.1) [] (ats (node_pieces shows e.node)) = stays_without g I s.0 s.1 part n e st in
      let m : Made g I (all_released g W (ats (node_pieces shows e.node))) d t s.0 s.1 (delete n s.1)
      = made g I d t v p s f (delete n s.1) [] (ats (node_pieces shows e.node)) W w (delete_at n s.1) (good_delete n B (GoodBelow B s.0) s.1 part.good) in (
        all_released g W (ats (node_pieces shows e.node)),
        record {
          is = ap (λ (K : List ℕ). chain_freed g K (g.n - data_at g) (head_of shows e).addr.0) (stays_is g I s.0 s.1 part n e st)
              ∙ chain_gone W w.kept.size (untouched W w);
          as_made = m;
        },
      )
    where
      untouched : (W : List ℕ) → Without g I W s.0 s.1 (delete n s.1) [] (ats (node_pieces shows e.node))
          → (b : ℕ) → 1 ≤ count b (ats (node_pieces shows e.node)) → SameBlock (block_size g) I W b
      untouched W w b h i q = w.kept.at b i (go (dec_lt 0 (count b w.touched))) q
        where
          go : Dec (0 < count b w.touched) → count b w.touched ≡ 0
          go (yes y) = absurd (omega (arith, w.seen b y, w.counts b, part.stored.once b, count_none b))
          go (no y) = omega arith

  -- where it goes
  before_goes : Goes n e s.1 → (J : List ℕ) × Before J
  unfolding node cell all_released
  before_goes st =
      let B : ℕ = block_size g in
      let N : List ℕ = ats (node_pieces shows e.node) in
      let W : List ℕ = unlinked_from g I s.0 s.1 part n e st in
      let w : Without g I W s.0 s.1 (delete n s.1) (st.at ∷ []) (st.at ∷ N) = goes_without g I s.0 s.1 part n e st in
      let k : Sound g (length W) = subst (Sound g) (sym w.kept.size) v.laid.sound in
      let i : (data_at g ≤ st.at) × (st.at < bit_end g) = laid_in g I d t _ v.laid st.at (omega (arith, w.counts st.at, count_same st.at st.at N refl, sub-blocks (block_size g) d p t s f st.at)) in
      let m : Made g I (all_released g W (st.at ∷ N)) d t s.0 s.1 (delete n s.1)
      = made g I d t v p s f (delete n s.1) (st.at ∷ []) (st.at ∷ N) W w (delete_at n s.1) (good_delete n B (GoodBelow B s.0) s.1 part.good) in (
        all_released g (released g W st.at) N,
        record {
          is = ap (λ (K : List ℕ). chain_freed g K (g.n - data_at g) (head_of shows e).addr.0) (goes_is g I s.0 s.1 part n e st)
              ∙ chain_gone (released g W st.at) ((released_kept g W k st.at i).size ∙ w.kept.size)
              (λ b h j q. released_block g W k st.at i b (stored.range b h).0 (λ x. omega (arith, h, w.counts b, part.stored.once b, count_same b st.at N x)) j q ∙ untouched W w b h j q);
          as_made = m;
        },
      )
    where
      untouched : (W : List ℕ) → Without g I W s.0 s.1 (delete n s.1) (st.at ∷ []) (st.at ∷ ats (node_pieces shows e.node))
          → (b : ℕ) → 1 ≤ count b (ats (node_pieces shows e.node)) → SameBlock (block_size g) I W b
      untouched W w b h i q = w.kept.at b i (go (dec_lt 0 (count b w.touched))) q
        where
          go : Dec (0 < count b w.touched) → count b w.touched ≡ 0
          go (yes y) =
              absurd (omega (
                arith,
                w.seen b y,
                w.counts b,
                part.stored.once b,
                count_cons b st.at (ats (node_pieces shows e.node)),
              ))
          go (no y) = omega arith

  before : (J : List ℕ) × Before J
  before = go (delete_site n e s.1 l)
    where
      go : Stays n e s.1 ⊎ Goes n e s.1 → (J : List ℕ) × Before J
      go (inl st) = before_stays st
      go (inr st) = before_goes st

  -- The directory without the entry does not reach what the entry stood for.
  pub gone_counts : (i : ℕ) → count i (blocks (block_size g) s.0 (delete n s.1)) + count i (ats (node_pieces (view (block_size g) s.0) e.node))
      ≤ count i (blocks (block_size g) s.0 s.1)
  gone_counts i = go (delete_site n e s.1 l)
    where
      go : Stays n e s.1 ⊎ Goes n e s.1
          → count i (blocks (block_size g) s.0 (delete n s.1)) + count i (ats (node_pieces (view (block_size g) s.0) e.node)) ≤ count i (blocks (block_size g) s.0 s.1)
      go (inl st) = omega (arith, (stays_without g I s.0 s.1 part n e st).counts i)
      go (inr st) =
          omega (
            arith,
            (goes_without g I s.0 s.1 part n e st).counts i,
            count_cons i st.at (ats (node_pieces (view (block_size g) s.0) e.node)),
          )

  -- ---- with the own entry

  module _ (now : ℕ) (own : Own) (o : OwnOf (block_size g) d p t own) (small : now < 2 ^ 64) where
    removes : TreeDeletes g d p n now t I (removed g I (blocks_at s.1) (head_of shows e) (spot_of n s.1) own now)
    unfolding removed deleted
    removes =
        let J : List ℕ = before.0 in
        let b : Before J = before.1 in
        record {
          occupied = record { dir = s; there = f; entry = e; held = l };
          bare = bare;
          makes = subst (λ (K : List ℕ). Makes g d t (edit d p (λ _. now) (λ e bs. delete n bs) t) I (sum_renewed g K (blocks_at s.1) own now)) (sym b.is)
              (sum_makes g I J d t p now (λ e bs. delete n bs) s own v f b.as_made o small);
        }

-- ---- what a caller cites

module _ (g : Geo) (I : List ℕ) (d : ℕ) (t : Tree d) (p : List Name) (n : Name) (s : Some) (entry : Entry (Below s.0)) (e : DirEntry) (place : Place) where
  -- On a volume the stores of a delete make what `Deletes` says: the volume of the edited tree, zeros in the blocks that went, and every other byte as it was.
  pub removed_is : (dir now : ℕ) (own : Own) → Volume g I d t → find d p t ≡ some s → blocks_at s.1 ≡ dir → OwnOf (block_size g) d p t own → lookup n s.1 ≡ some entry
      → Bare s.0 entry.node → e ≡ head_of (view (block_size g) s.0) entry → place ≡ spot_of n s.1 → now < 2 ^ 64 → TreeDeletes g d p n now t I (removed g I dir e place own now)
  removed_is dir now own v f a o l b h q small =
      subst (TreeDeletes g d p n now t I) (λ i. removed g I (a i) (sym h i) (sym q i) own now) (removes g I d t v p n s f entry l b now own o small)
