-- A block that stays: after the entry's bytes are cut out the image shows the directory without the entry.
use mathlib.Core.Path.{◌≡◌, sym, ap, ◌∙◌, subst}
use mathlib.Core.Bool.{true, false}
use mathlib.Core.Logic.{◌⊎◌, inl, inr}
use mathlib.Core.List.{List, [], ◌∷◌, ◌++◌, append_assoc}
use Prim.Native.Nat.{ℕ, ◌+◌, ◌-◌, ◌*◌, ◌≤◌}
use native.Mathlib.Decide.{ℕ_discrete}
use native.Mathlib.Omega.{arith}
use lib.ListN.{length, get_or, length-append}
use borrow.Author.Tests.{eq-eqb, ne_eqb}
use Rattle.wire.specs.Be.{bytes}
use Rattle.wire.specs.Pick.{zero_from}
use Rattle.wire.proofs.Numbers.{length_bytes}
use Rattle.wire.proofs.Picks.{either, pick_true, pick_false}
use Rattle.wire.proofs.Zeros.{zeros_shown}
use Rattle.block.specs.Block.{cell, Off, Kept}
use Rattle.block.proofs.Blocks.{kept_less}
use Rattle.model.specs.Tree.{Name, Entry, Block, Below, Tree, weight, used, delete}
use Rattle.model.specs.Render.{View, blocks_at, padded, entry_bytes, entries_bytes, node_pieces, entry_pieces, dir_pieces, view, render, ats, count, blocks, Shows, ShowsAll}
use Rattle.model.specs.Geometry.{Geo, block_size}
use Rattle.model.specs.Volume.{All, GoodEntry, GoodBlock, GoodBelow}
use Rattle.model.proofs.Alike.{length_entry}
use Rattle.model.proofs.Areas.{size_large, block_inside}
use Rattle.model.proofs.Commit.{shows_two, cut_length}
use Rattle.model.proofs.Counts.{count_same, count_none, count_is}
use Rattle.model.proofs.Cuts.{Cut, dir_split, entries_split, bytes_split, up_to, bytes_both, pieces_both}
use Rattle.model.proofs.Entries.{block_reads}
use Rattle.model.proofs.Frame.{shows_right, cut_count, cut_shows, cut_old, cut_new}
use Rattle.model.proofs.Full.{whole_tree, length_entries}
use Rattle.model.proofs.Good.{good_delete}
use Rattle.model.proofs.Lists.{all_mid}
use Rattle.dir_entry.specs.Entry.{header}
use Rattle.dir_entry.specs.Shown.{head_of}
use Rattle.dir_entry.proofs.Shown.{head_weight}
use Rattle.thm_walk.specs.Shown.{spot_of}
use Rattle.thm_walk.proofs.Parts.{Part}
use Rattle.delete_store.specs.Delete.{cut_out, less_bare, entry_gone}
use Rattle.delete_store.proofs.Moved.{cut_kept, cut_shown}
use Rattle.delete_store.proofs.Sites.{Stays}

-- ---- what an image W has to show, once an entry of the directory s is out and nothing is given back yet: u is the directory without it, `bare` its block
-- where that is empty now, and `gone` are the blocks to give back

pub record Without (g : Geo) (I W : List ℕ) (d : ℕ) (s u : Tree d) (bare gone : List ℕ) : Type 0 where
  -- the blocks that were stored to
  pub touched : List ℕ
  pub kept : Kept (block_size g) (λ b o. count b touched ≡ 0) I W
  pub among : (i : ℕ) → 1 ≤ count i touched → 1 ≤ count i (blocks (block_size g) d s)
  pub seen : (i : ℕ) → 1 ≤ count i touched → 1 ≤ count i (blocks (block_size g) d u) + count i bare
  pub shown : ShowsAll (block_size g) W (render (block_size g) d u)
  pub counts : (i : ℕ) → count i (blocks (block_size g) d s) ≡ count i (blocks (block_size g) d u) + count i gone
  pub long : length (blocks (block_size g) d s) ≡ length (blocks (block_size g) d u) + length gone

-- ---- pieces

module _ {X : Type 0} (B : ℕ) (v : View X) where
  -- A directory's pieces, by those of one of its blocks.
  pub dir_block_lem : (xs : List (Block X)) (a : ℕ) (es : List (Entry X)) (ys : List (Block X))
      → dir_pieces B v (xs ++ (record { at = a; entries = es } ∷ ys))
      ≡ up_to B v a xs ++ (record { at = a; full = bytes 4 (blocks_at ys) ++ padded (B - 4) (entries_bytes v es) } ∷ (entry_pieces v es ++ dir_pieces B v ys))
  unfolding dir_pieces
  dir_block_lem xs a es ys = dir_split B v xs (record { at = a; entries = es }) ys

  -- One entry out of a block, as a cut: its bytes become none, and so do its pieces.
  out_cut : (n : Name) (e : Entry X) (bs : List (Block X)) (s : Stays n e bs)
      → Cut B (dir_pieces B v bs) (dir_pieces B v (delete n bs)) (node_pieces v e.node) [] (B * s.at + 4 + used s.left) (entry_bytes v e) []
  out_cut n e bs s = record {
    before = up_to B v s.at s.front;
    between = entry_pieces v s.left;
    after = entry_pieces v s.right ++ dir_pieces B v s.later;
    at = s.at;
    next = blocks_at s.later;
    low = entries_bytes v s.left;
    high = entries_bytes v s.right;
    old = ap (dir_pieces B v) s.is ∙ dir_block_lem s.front s.at (s.left ++ (e ∷ s.right)) s.later
        ∙ rw (bytes_split B v s.left e s.right, entries_split B v s.left e s.right) (simp append_assoc);
    new = ap (dir_pieces B v) s.gone ∙ dir_block_lem s.front s.at (s.left ++ s.right) s.later
        ∙ rw (bytes_both B v s.left s.right, pieces_both B v s.left s.right) (simp append_assoc);
    stands = ap (λ (z : ℕ). B * s.at + 4 + z) (sym (length_entries v s.left));
  }

-- one block was stored to
pub one_only : (b a : ℕ) → count b (a ∷ []) ≡ 0 → b ≡ a → ⊥
one_only b a h e = omega (arith, count_same b a [] e)

-- an entry's name has a byte, so a block with one is not all zero
named : {X : Type 0} (B : ℕ) (S : X → Type 0) (v : View X) (J : List ℕ) (k c : ℕ) (es : List (Entry X)) → 1 ≤ length es → All (GoodEntry B S) es
    → Shows J k (padded c (entries_bytes v es)) → get_or J (k + 17) 0 ≡ 0 → ⊥
unfolding used
named B S v J k c [] h a s z = omega arith
named B S v J k c (x ∷ es) h a s z =
    let e : k + 0 + 17 ≡ k + 17 = omega arith in
    omega (arith, z, ap (λ (j : ℕ). get_or J j 0) e, (block_reads B v J k c [] x es s).letters, a.0.good_name.some_bytes)

-- ---- the block stays

module _ (g : Geo) (I : List ℕ) (d : ℕ) (s : Tree d) (part : Part g I d s) (n : Name) (e : Entry (Below d)) (st : Stays n e s) where
  abbrev shows : View (Below d)
  shows = view (block_size g) d

  -- its entries, with the one that goes
  held : GoodBlock (block_size g) (GoodBelow (block_size g) d) (record { at = st.at; entries = st.left ++ (e ∷ st.right) })
  held = all_mid (GoodBlock (block_size g) (GoodBelow (block_size g) d)) st.front _ st.later (subst (All (GoodBlock (block_size g) (GoodBelow (block_size g) d))) st.is part.good.all)

  out : Cut (block_size g) (dir_pieces (block_size g) shows s) (dir_pieces (block_size g) shows (delete n s)) (node_pieces shows e.node) []
      (block_size g * st.at + 4 + used st.left) (entry_bytes shows e) []
  out = out_cut (block_size g) shows n e s st

  -- the bytes of its entries
  low_long : length (entries_bytes shows st.left) ≡ used st.left
  low_long = length_entries shows st.left

  long : length (entries_bytes shows st.left ++ (entry_bytes shows e ++ entries_bytes shows st.right)) ≤ block_size g - 5
  long =
      omega (
        arith,
        ap length (bytes_split (block_size g) shows st.left e st.right),
        length_entries shows (st.left ++ (e ∷ st.right)),
        held.fits,
      )

  room : used st.left + weight e ≤ block_size g - 5
  room = omega (arith, low_long, length_entry shows e, simp length-append at long)

  among : 1 ≤ count st.at (ats (dir_pieces (block_size g) shows s))
  unfolding out out_cut
  among = cut_old _ _ _ _ _ _ _ _ out

  in_image : block_size g * st.at + block_size g ≤ length I
  unfolding render
  in_image = block_inside g (length I) part.sound st.at (part.stored.range st.at among).1

  -- the image without the entry's bytes
  pub stayed : List ℕ
  stayed = cut_out (block_size g) I st.at (used st.left) (weight e)

  stayed_kept : Kept (block_size g) (Off st.at 4 (block_size g - 4)) I stayed
  unfolding stayed
  stayed_kept = cut_kept (block_size g) I st.at (used st.left) (weight e) (omega (arith, room)) (omega (arith, size_large g)) in_image

  stayed_block : Shows stayed (block_size g * st.at) (bytes 4 (blocks_at st.later) ++ padded (block_size g - 4) (entries_bytes shows st.left ++ entries_bytes shows st.right))
  unfolding stayed render out out_cut
  stayed_block =
      cut_shown (block_size g) I st.at (used st.left) (weight e) (omega (arith, room)) (omega (arith, size_large g)) in_image (blocks_at st.later)
      (entries_bytes shows st.left) (entry_bytes shows e) (entries_bytes shows st.right) low_long (length_entry shows e) (omega (arith, long))
      (shows_right (block_size g) I out.before _ (subst (ShowsAll (block_size g) I) out.old part.stored.shown)).0

  pub stays_without : Without g I stayed d s (delete n s) [] (ats (node_pieces shows e.node))
  unfolding render ats cell out out_cut
  stays_without =
      let B : ℕ = block_size g in
      record {
        touched = st.at ∷ [];
        kept = kept_less (λ b o h q x y. one_only b st.at h q) stayed_kept;
        among = λ i h. subst (λ (j : ℕ). 1 ≤ count j (ats (dir_pieces B shows s))) (sym (count_is i st.at h)) among;
        seen = λ i h. subst (λ (j : ℕ). 1 ≤ count j (ats (dir_pieces B shows (delete n s))) + count j []) (sym (count_is i st.at h)) (omega (arith, cut_new _ _ _ _ _ _ _ _ out));
        shown = cut_shows B _ _ _ _ _ _ _ out I stayed (whole_tree B (omega (arith, size_large g)) d s part.good) part.stored.once part.stored.shown
            (λ b h k q i l. stayed_kept.at b i (λ x _ _. q x) l) stayed_block tt;
        counts = λ i. omega (arith, cut_count B _ _ _ _ _ _ _ out i, count_none i);
        long = omega (arith, cut_length B _ _ _ _ _ _ _ out);
      }

  -- it is not all zero, where it keeps an entry
  not_bare : 1 ≤ length (st.left ++ st.right) → zero_from stayed (block_size g * st.at + 4) (block_size g - 4) ≡ false
  not_bare h = go (either (zero_from stayed (block_size g * st.at + 4) (block_size g - 4)))
    where
      kept : GoodBlock (block_size g) (GoodBelow (block_size g) d) (record { at = st.at; entries = st.left ++ st.right })
      kept =
          all_mid (GoodBlock (block_size g) (GoodBelow (block_size g) d)) st.front _ st.later
          (subst (All (GoodBlock (block_size g) (GoodBelow (block_size g) d))) st.gone (good_delete n (block_size g) (GoodBelow (block_size g) d) s part.good).all)

      four : block_size g * st.at + length (bytes 4 (blocks_at st.later)) ≡ block_size g * st.at + 4
      four = omega (arith, length_bytes 4 (blocks_at st.later))

      data_shown : Shows stayed (block_size g * st.at + 4) (padded (block_size g - 4) (entries_bytes shows (st.left ++ st.right)))
      data_shown =
          subst (λ (l : List ℕ). Shows stayed (block_size g * st.at + 4) (padded (block_size g - 4) l)) (sym (bytes_both (block_size g) shows st.left st.right))
          (subst (λ (j : ℕ). Shows stayed j (padded (block_size g - 4) (entries_bytes shows st.left ++ entries_bytes shows st.right))) four
          (shows_two stayed (block_size g * st.at) (bytes 4 (blocks_at st.later)) _ stayed_block))

      go : (zero_from stayed (block_size g * st.at + 4) (block_size g - 4) ≡ true) ⊎ (zero_from stayed (block_size g * st.at + 4) (block_size g - 4) ≡ false)
          → zero_from stayed (block_size g * st.at + 4) (block_size g - 4) ≡ false
      go (inr f) = f
      go (inl t) =
          absurd (named (block_size g) (GoodBelow (block_size g) d) shows stayed (block_size g * st.at + 4) (block_size g - 4) (st.left ++ st.right) h kept.each data_shown
          (zeros_shown stayed (block_size g * st.at + 4) (block_size g - 4) t 17 (omega (arith, size_large g))))

  same_less : less_bare g stayed (blocks_at s) st.at ≡ stayed
  unfolding less_bare
  same_less = go st.why (ℕ_discrete st.at (blocks_at s))
    where
      go : (blocks_at s ≡ st.at) ⊎ (1 ≤ length (st.left ++ st.right)) → Dec (st.at ≡ blocks_at s) → less_bare g stayed (blocks_at s) st.at ≡ stayed
      go w (yes q) = pick_true _ _ (eq-eqb st.at (blocks_at s) q)
      go (inl w) (no q) = absurd (q (sym w))
      go (inr w) (no q) = pick_false _ _ (ne_eqb st.at (blocks_at s) q) ∙ pick_false _ _ (not_bare w)

  -- That is the image that the stores make.
  pub stays_is : entry_gone g I (blocks_at s) (head_of shows e) (spot_of n s) ≡ stayed
  unfolding entry_gone stayed
  stays_is =
      let w : header + (head_of shows e).len ≡ weight e = omega (arith, head_weight shows 0 e) in
      ap (entry_gone g I (blocks_at s) (head_of shows e)) st.spot
      ∙ ap (λ (k : ℕ). less_bare g (cut_out (block_size g) I st.at (used st.left) k) (blocks_at s) st.at) w
      ∙ (unfold stayed in same_less)
