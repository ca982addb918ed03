-- A block that goes: the block before it is found, gets its next address, and the image then shows the directory without the entry.
use mathlib.Core.Path.{◌≡◌, refl, sym, ap, ◌∙◌, subst}
use mathlib.Core.Bool.{true}
use mathlib.Core.List.{List, [], ◌∷◌, ◌++◌, append_assoc, append-nil}
use Prim.Native.Nat.{ℕ, zero, suc, ◌+◌, ◌-◌, ◌*◌, ◌^◌, ◌≤◌, ◌<◌}
use native.Mathlib.Omega.{arith}
use lib.ListN.{length, length-append}
use borrow.Author.Tests.{eq-eqb, ne_eqb, lt-leb}
use Rattle.wire.specs.Be.{bytes, splice}
use Rattle.wire.specs.Pick.{zero_from}
use Rattle.wire.proofs.Numbers.{length_bytes}
use Rattle.wire.proofs.Picks.{pick_true, pick_false}
use Rattle.wire.proofs.Zeros.{zeros_pass}
use Rattle.block.specs.Block.{cell, next, linked, Off, Kept}
use Rattle.block.proofs.Blocks.{kept_less, kept_trans, linked_kept}
use Rattle.model.specs.Tree.{Name, Entry, Block, Below, Tree, weight, used, delete}
use Rattle.model.specs.Render.{Piece, View, blocks_at, padded, entry_bytes, entries_bytes, node_pieces, entry_pieces, dir_pieces, view, render, ats, count, blocks, Shows, ShowsAll}
use Rattle.model.specs.Geometry.{Geo, block_size, data_at, Sound}
use Rattle.model.specs.Volume.{All, GoodBlock, GoodBelow}
use Rattle.model.proofs.Alike.{length_entry}
use Rattle.model.proofs.Areas.{size_large, block_inside}
use Rattle.model.proofs.Commit.{shows_both, shows_two, shows_stored, shows_after}
use Rattle.model.proofs.Counts.{count_same, count_cons, count_append, ats-append, length-ats}
use Rattle.model.proofs.Cuts.{up_to}
use Rattle.model.proofs.Entries.{block_ends, next_shown}
use Rattle.model.proofs.Frame.{SameBlock, shows_append, shows_left, shows_right, shows_frame}
use Rattle.model.proofs.Full.{Whole, whole_tree}
use Rattle.model.proofs.Owns.{shows_kept}
use Rattle.model.proofs.Sums.{chain_long}
use Rattle.model.proofs.Lists.{all_left, all_right, all_mid}
use Rattle.dir_entry.specs.Entry.{header}
use Rattle.dir_entry.specs.Shown.{head_of}
use Rattle.dir_entry.proofs.Shown.{head_weight}
use Rattle.thm_walk.specs.Shown.{spot_of}
use Rattle.thm_walk.proofs.Parts.{Stored, Part, stored_few, block_data, chain-after, block_next, stored_right, next_small, stored_tail}
use Rattle.chain_store.specs.Chain.{released}
use Rattle.delete_store.specs.Delete.{cut_out, before_from, unlinked, less_bare, entry_gone}
use Rattle.delete_store.proofs.Moved.{cut_kept, cut_next, cut_shown}
use Rattle.delete_store.proofs.Sites.{Goes}
use Rattle.delete_store.proofs.BlockStays.{Without, dir_block_lem, one_only}

-- The block before is found by the next addresses alone.
before_ext : (B n : ℕ) (I J : List ℕ) → ((a : ℕ) → next B J a ≡ next B I a) → (k a b : ℕ) → before_from B n J k a b ≡ before_from B n I k a b
unfolding before_from
before_ext B n I J h zero a b = refl
before_ext B n I J h (suc k) a b = rw (h a, before_ext B n I J h k (next B I a) b)

-- ---- along the chain of a directory

module _ (g : Geo) (I : List ℕ) (sound : Sound g (length I)) (d : ℕ) where
  abbrev shows : View (Below d)
  shows = view (block_size g) d

  abbrev pieces : Tree d → List Piece
  pieces bs = dir_pieces (block_size g) shows bs

  -- a block is among the pieces
  dir_among : (xs : Tree d) (b : Block (Below d)) (ys : Tree d) → 1 ≤ count b.at (ats (pieces (xs ++ (b ∷ ys))))
  unfolding ats
  dir_among xs b ys =
      rw (dir_block_lem (block_size g) shows xs b.at b.entries ys, ats-append, count_append)
      (omega (arith, count_same b.at b.at (ats (entry_pieces shows b.entries ++ dir_pieces (block_size g) shows ys)) refl))

  -- and not at the head, where it comes later
  first_other : (b : Block (Below d)) (bs : Tree d) (a : ℕ) → Stored g I (pieces (b ∷ bs)) → 1 ≤ count a (ats (pieces bs)) → b.at ≡ a → ⊥
  unfolding dir_pieces ats
  first_other b bs a s h e =
      let E : List Piece = entry_pieces shows b.entries in
      let T : List Piece = dir_pieces (block_size g) shows bs in
      omega (arith, s.once a, count_same a b.at (ats (E ++ T)) (sym e), ap (count a) (ats-append E T), count_append a (ats E) (ats T))

  module _ (last blk : Block (Below d)) (later : Tree d) where
    head_other : (front : Tree d) → Stored g I (pieces (front ++ (last ∷ (blk ∷ later)))) → blocks_at (front ++ (last ∷ (blk ∷ later))) ≡ blk.at → ⊥
    unfolding blocks_at
    head_other [] s e = first_other last (blk ∷ later) blk.at s (dir_among [] blk later) e
    head_other (c ∷ front) s e =
        first_other c (front ++ (last ∷ (blk ∷ later))) blk.at s
        (subst (λ (z : Tree d). 1 ≤ count blk.at (ats (pieces z))) (append_assoc front (last ∷ []) (blk ∷ later)) (dir_among (front ++ (last ∷ [])) blk later)) e

    head_below : (front : Tree d) → Stored g I (pieces (front ++ (last ∷ (blk ∷ later)))) → blocks_at (front ++ (last ∷ (blk ∷ later))) < g.n
    unfolding blocks_at
    head_below [] s = (block_data g I shows last (blk ∷ later) s).1
    head_below (c ∷ front) s = (block_data g I shows c (front ++ (last ∷ (blk ∷ later))) s).1

    -- The walk from the first block finds the one before blk.
    before_is : (front : Tree d) (k : ℕ) → length front < k → Stored g I (pieces (front ++ (last ∷ (blk ∷ later))))
        → before_from (block_size g) g.n I k (blocks_at (front ++ (last ∷ (blk ∷ later)))) blk.at ≡ last.at
    unfolding before_from blocks_at
    before_is [] zero h s = absurd (omega arith)
    before_is [] (suc k) h s = pick_true _ _ (eq-eqb (next (block_size g) I last.at) blk.at (block_next g I shows sound last (blk ∷ later) s))
    before_is (x ∷ front) zero h s = absurd (omega arith)
    before_is (x ∷ front) (suc k) h s =
        let y : next (block_size g) I x.at ≡ blocks_at (front ++ (last ∷ (blk ∷ later))) = block_next g I shows sound x (front ++ (last ∷ (blk ∷ later))) s in
        let t = chain-after g I shows x (front ++ (last ∷ (blk ∷ later))) s in
        pick_false _ _ (ne_eqb (next (block_size g) I x.at) blk.at (λ e. head_other front t (sym y ∙ e)))
        ∙ pick_false _ _ (lt-leb g.n (next (block_size g) I x.at) (omega (arith, y, head_below front t)))
        ∙ ap (λ (z : ℕ). before_from (block_size g) g.n I k z blk.at) y
        ∙ before_is front k (omega arith) t

-- ---- the block goes

module _ (g : Geo) (I : List ℕ) (d : ℕ) (s : Tree d) (part : Part g I d s) (n : Name) (e : Entry (Below d)) (st : Goes n e s) where
  abbrev shown_as : View (Below d)
  shown_as = view (block_size g) d

  -- the block that goes, the one before it, and the bytes of the latter's entries
  blk : Block (Below d)
  blk = record { at = st.at; entries = e ∷ [] }

  abbrev to : ℕ
  to = blocks_at st.later

  filled : List ℕ
  filled = padded (block_size g - 4) (entries_bytes shown_as st.last.entries)

  front : List Piece
  front = up_to (block_size g) shown_as st.last.at st.front

  own : List Piece
  own = entry_pieces shown_as st.last.entries

  node : List Piece
  node = node_pieces shown_as e.node

  rest : List Piece
  rest = dir_pieces (block_size g) shown_as st.later

  linked_to : ℕ → Piece
  linked_to z = record { at = st.last.at; full = bytes 4 z ++ filled }

  emptied : Piece
  emptied = record { at = st.at; full = bytes 4 to ++ padded (block_size g - 4) (entry_bytes shown_as e ++ []) }

  old : render (block_size g) d s ≡ front ++ (linked_to st.at ∷ (own ++ (emptied ∷ (node ++ rest))))
  unfolding render dir_pieces entry_pieces entries_bytes blocks_at front linked_to filled own emptied node rest blk
  old =
      ap (dir_pieces (block_size g) shown_as) st.is
      ∙ dir_block_lem (block_size g) shown_as st.front st.last.at st.last.entries (blk ∷ st.later)
      ∙ rw (append-nil (node_pieces shown_as e.node))

  new : render (block_size g) d (delete n s) ≡ front ++ (linked_to to ∷ (own ++ rest))
  unfolding render front linked_to filled own rest
  new = ap (dir_pieces (block_size g) shown_as) st.gone ∙ dir_block_lem (block_size g) shown_as st.front st.last.at st.last.entries st.later

  -- how often a block is in them
  count_old : (i : ℕ) → count i (blocks (block_size g) d s) ≡ count i (ats front) + (count i (st.last.at ∷ []) + (count i (ats own) + (count i (st.at ∷ []) + (count i (ats node) + count i (ats rest)))))
  unfolding ats linked_to emptied
  count_old i =
      ap (λ (l : List Piece). count i (ats l)) old
      ∙ omega (
        arith,
        ap (count i) (ats-append front (linked_to st.at ∷ (own ++ (emptied ∷ (node ++ rest))))),
        count_append i (ats front) (st.last.at ∷ ats (own ++ (emptied ∷ (node ++ rest)))),
        count_cons i st.last.at (ats (own ++ (emptied ∷ (node ++ rest)))),
        ap (count i) (ats-append own (emptied ∷ (node ++ rest))),
        count_append i (ats own) (st.at ∷ ats (node ++ rest)),
        count_cons i st.at (ats (node ++ rest)),
        ap (count i) (ats-append node rest),
        count_append i (ats node) (ats rest),
      )

  count_new : (i : ℕ) → count i (blocks (block_size g) d (delete n s)) ≡ count i (ats front) + (count i (st.last.at ∷ []) + (count i (ats own) + count i (ats rest)))
  unfolding ats linked_to
  count_new i =
      ap (λ (l : List Piece). count i (ats l)) new
      ∙ omega (
        arith,
        ap (count i) (ats-append front (linked_to to ∷ (own ++ rest))),
        count_append i (ats front) (st.last.at ∷ ats (own ++ rest)),
        count_cons i st.last.at (ats (own ++ rest)),
        ap (count i) (ats-append own rest),
        count_append i (ats own) (ats rest),
      )

  many : length (blocks (block_size g) d s) ≡ length (blocks (block_size g) d (delete n s)) + suc (length (ats node))
  unfolding ats
  many =
      omega (
        arith,
        ap (λ (l : List Piece). length (ats l)) old,
        ap (λ (l : List Piece). length (ats l)) new,
        length-ats front (linked_to st.at ∷ (own ++ (emptied ∷ (node ++ rest)))),
        length-ats own (emptied ∷ (node ++ rest)),
        length-ats node rest,
        length-ats front (linked_to to ∷ (own ++ rest)),
        length-ats own rest,
      )

  -- the two blocks are blocks of the data, and not one
  at_in : (data_at g ≤ st.at) × (st.at < g.n)
  at_in = part.stored.range st.at (omega (arith, count_old st.at, count_same st.at st.at [] refl))

  last_in : (data_at g ≤ st.last.at) × (st.last.at < g.n)
  last_in = part.stored.range st.last.at (omega (arith, count_old st.last.at, count_same st.last.at st.last.at [] refl))

  apart : st.last.at ≡ st.at → ⊥
  apart q = omega (arith, part.stored.once st.at, count_old st.at, count_same st.at st.at [] refl, count_same st.at st.last.at [] (sym q))

  at_inside : block_size g * st.at + block_size g ≤ length I
  at_inside = block_inside g (length I) part.sound st.at at_in.1

  -- the entry fits its block
  held : GoodBlock (block_size g) (GoodBelow (block_size g) d) blk
  unfolding blk
  held =
      all_mid (GoodBlock (block_size g) (GoodBelow (block_size g) d)) (st.front ++ (st.last ∷ [])) _ st.later
      (subst (All (GoodBlock (block_size g) (GoodBelow (block_size g) d))) (st.is ∙ sym (append_assoc st.front (st.last ∷ []) (blk ∷ st.later))) part.good.all)

  room : weight e ≤ block_size g - 5
  unfolding used blk
  room = omega (arith, held.fits)

  -- what the image shows of the two blocks
  shown_old : ShowsAll (block_size g) I (front ++ (linked_to st.at ∷ (own ++ (emptied ∷ (node ++ rest)))))
  shown_old = subst (ShowsAll (block_size g) I) old part.stored.shown

  last_shown : Shows I (block_size g * st.last.at) (bytes 4 st.at ++ filled)
  unfolding linked_to
  last_shown = (shows_right (block_size g) I front _ shown_old).0

  at_shown : Shows I (block_size g * st.at) (bytes 4 to ++ padded (block_size g - 4) (entry_bytes shown_as e ++ []))
  unfolding emptied
  at_shown = (shows_right (block_size g) I own _ (shows_right (block_size g) I front _ shown_old).1).0

  stored_rest : Stored g I rest
  stored_rest =
      stored_right g I node rest (stored_tail g I _ _ (stored_right g I own _ (stored_tail g I _ _ (stored_right g I front _ (subst (Stored g I) old part.stored)))))

  to_small : to < 2 ^ 32
  unfolding rest
  to_small = next_small g I (view (block_size g) d) part.sound st.later stored_rest

  -- ---- the entry's bytes cut out

  bare : List ℕ
  bare = cut_out (block_size g) I st.at 0 (weight e)

  bare_kept : Kept (block_size g) (Off st.at 4 (block_size g - 4)) I bare
  unfolding bare
  bare_kept = cut_kept (block_size g) I st.at 0 (weight e) (omega (arith, room)) (omega (arith, size_large g)) at_inside

  bare_next : (b : ℕ) → next (block_size g) bare b ≡ next (block_size g) I b
  unfolding bare
  bare_next b = cut_next (block_size g) I st.at 0 (weight e) (omega (arith, room)) (omega (arith, size_large g)) at_inside b

  bare_shown : Shows bare (block_size g * st.at) (bytes 4 to ++ padded (block_size g - 4) [])
  unfolding bare
  bare_shown =
      cut_shown (block_size g) I st.at 0 (weight e) (omega (arith, room)) (omega (arith, size_large g)) at_inside to [] (entry_bytes shown_as e) [] refl
      (length_entry shown_as e) (rw append-nil (omega (arith, room, length_entry shown_as e))) at_shown

  -- it is all zero now
  bare_zero : zero_from bare (block_size g * st.at + 4) (block_size g - 4) ≡ true
  unfolding entries_bytes used
  bare_zero =
      let four : block_size g * st.at + length (bytes 4 to) ≡ block_size g * st.at + 4 = omega (arith, length_bytes 4 to) in
      let z : Shows bare (block_size g * st.at + 4) (padded (block_size g - 4) [])
      = subst (λ (j : ℕ). Shows bare j (padded (block_size g - 4) [])) four (shows_two bare (block_size g * st.at) (bytes 4 to) (padded (block_size g - 4) []) bare_shown) in
      zeros_pass bare (block_size g - 4) (block_size g * st.at + 4) (λ j l. block_ends shown_as bare (block_size g * st.at + 4) (block_size g - 4) [] j z (omega arith) l)

  -- ---- the block before it linked to what follows

  pub unlinked_from : List ℕ
  unlinked_from = linked (block_size g) bare st.last.at to

  last_inside : block_size g * st.last.at + block_size g ≤ length bare
  last_inside = omega (arith, block_inside g (length I) part.sound st.last.at last_in.1, bare_kept.size)

  link_kept : Kept (block_size g) (Off st.last.at 0 4) bare unlinked_from
  unfolding unlinked_from
  link_kept = linked_kept (block_size g) bare st.last.at (omega (arith, size_large g)) last_inside to

  all_same : Kept (block_size g) (λ b o. count b (st.last.at ∷ (st.at ∷ [])) ≡ 0) I unlinked_from
  all_same =
      kept_trans (kept_less (λ b o h q x y. one_only b st.at (omega (arith, count_cons b st.last.at (st.at ∷ []))) q) bare_kept)
      (kept_less (λ b o h q x y. one_only b st.last.at (omega (arith, count_cons b st.last.at (st.at ∷ []))) q) link_kept)

  -- a block of the others is as it was
  other_block : (b : ℕ) → 1 ≤ count b (ats front) + (count b (ats own) + count b (ats rest)) → SameBlock (block_size g) I unlinked_from b
  unfolding cell
  other_block b h i l =
      all_same.at b i (omega (arith, count_cons b st.last.at (st.at ∷ []), count_old b, part.stored.once b)) l

  whole_old : All (Whole (block_size g)) (front ++ (linked_to st.at ∷ (own ++ (emptied ∷ (node ++ rest)))))
  whole_old = subst (All (Whole (block_size g))) old (whole_tree (block_size g) (omega (arith, size_large g)) d s part.good)

  -- the block before is linked anew
  last_new : Shows unlinked_from (block_size g * st.last.at) (bytes 4 to ++ filled)
  unfolding unlinked_from linked linked_to
  last_new =
      let B : ℕ = block_size g in
      let lt : length (bytes 4 to) ≡ 4 = length_bytes 4 to in
      let la : length (bytes 4 st.at) ≡ 4 = length_bytes 4 st.at in
      let fits : B * st.last.at + length (bytes 4 to) ≤ length bare = omega (arith, last_inside, size_large g) in
      let same : B * st.last.at + length (bytes 4 st.at) ≡ B * st.last.at + length (bytes 4 to) = omega arith in
      let full : length (bytes 4 st.at ++ filled) ≡ B = (all_right (Whole B) front (linked_to st.at ∷ (own ++ (emptied ∷ (node ++ rest)))) whole_old).0 in
      let a : Shows bare (B * st.last.at) (bytes 4 st.at ++ filled) = shows_kept B _ I bare st.last.at (bytes 4 st.at ++ filled) bare_kept (λ o l q x y. apart q) (omega arith) last_shown in
      let b : Shows bare (B * st.last.at + length (bytes 4 to)) filled = subst (λ (j : ℕ). Shows bare j filled) same (shows_two bare (B * st.last.at) (bytes 4 st.at) filled a) in
      shows_both (splice bare (B * st.last.at) (bytes 4 to)) (B * st.last.at) (bytes 4 to) filled (shows_stored bare (B * st.last.at) (bytes 4 to) fits)
      (shows_after bare (B * st.last.at) (bytes 4 to) fits (B * st.last.at + length (bytes 4 to)) filled (omega arith) b)

  shown_new : ShowsAll (block_size g) unlinked_from (front ++ (linked_to to ∷ (own ++ rest)))
  unfolding linked_to
  shown_new =
      let B : ℕ = block_size g in
      let w = (all_right (Whole B) front (linked_to st.at ∷ (own ++ (emptied ∷ (node ++ rest)))) whole_old).1 in
      let a = (shows_right B I front _ shown_old).1 in
      shows_append B unlinked_from front _ (shows_frame B I unlinked_from front (all_left (Whole B) front _ whole_old) (λ b h. other_block b (omega arith)) (shows_left B I front _ shown_old)) (
        last_new,
        shows_append B unlinked_from own rest
            (shows_frame B I unlinked_from own (all_left (Whole B) own (emptied ∷ (node ++ rest)) w) (λ b h. other_block b (omega arith)) (shows_left B I own (emptied ∷ (node ++ rest)) a))
            (shows_frame B I unlinked_from rest (all_right (Whole B) node rest (all_right (Whole B) own (emptied ∷ (node ++ rest)) w).1) (λ b h. other_block b (omega arith)) stored_rest.shown),
      )

  pub goes_without : Without g I unlinked_from d s (delete n s) (st.at ∷ []) (st.at ∷ ats (node_pieces shown_as e.node))
  unfolding node
  goes_without =
      let B : ℕ = block_size g in
      record {
        touched = st.last.at ∷ (st.at ∷ []);
        kept = all_same;
        among = λ i h. omega (arith, count_old i, count_cons i st.last.at (st.at ∷ []));
        seen = λ i h. omega (arith, count_new i, count_cons i st.last.at (st.at ∷ []));
        shown = subst (ShowsAll B unlinked_from) (sym new) shown_new;
        counts = λ i. omega (arith, count_old i, count_new i, count_cons i st.at (ats (node_pieces shown_as e.node)));
        long = many;
      }

  -- ---- that is the image that the stores make, with the block given back

  found : before_from (block_size g) g.n bare (g.n - data_at g) (blocks_at s) st.at ≡ st.last.at
  unfolding render pieces blk
  found =
      let B : ℕ = block_size g in
      let few : length st.front < g.n - data_at g
      = omega (arith, ap length st.is, length-append st.front (st.last ∷ (blk ∷ st.later)), chain_long B shown_as s, stored_few g I _ part.stored) in
      before_ext B g.n I bare bare_next (g.n - data_at g) (blocks_at s) st.at
      ∙ ap (λ (z : Tree d). before_from B g.n I (g.n - data_at g) (blocks_at z) st.at) st.is
      ∙ before_is g I part.sound d st.last blk st.later st.front (g.n - data_at g) few (subst (λ (z : Tree d). Stored g I (dir_pieces B shown_as z)) st.is part.stored)

  not_first : st.at ≡ blocks_at s → ⊥
  unfolding render pieces blk
  not_first q =
      head_other g I part.sound d st.last blk st.later st.front (subst (λ (z : Tree d). Stored g I (dir_pieces (block_size g) shown_as z)) st.is part.stored)
      (ap blocks_at (sym st.is) ∙ sym q)

  pub goes_is : entry_gone g I (blocks_at s) (head_of shown_as e) (spot_of n s) ≡ released g unlinked_from st.at
  unfolding entry_gone less_bare unlinked unlinked_from bare
  goes_is =
      let B : ℕ = block_size g in
      let w : header + (head_of shown_as e).len ≡ weight e = omega (arith, head_weight shown_as 0 e) in
      let J : List ℕ = cut_out B I st.at 0 (weight e) in
      let p : before_from B g.n J (g.n - data_at g) (blocks_at s) st.at ≡ st.last.at = unfold bare in found in
      let z : next B J st.at ≡ to = (unfold bare in bare_next st.at) ∙ next_shown B I st.at to _ to_small at_shown in
      ap (entry_gone g I (blocks_at s) (head_of shown_as e)) st.spot
      ∙ ap (λ (k : ℕ). less_bare g (cut_out B I st.at 0 k) (blocks_at s) st.at) w
      ∙ pick_false _ _ (ne_eqb st.at (blocks_at s) not_first)
      ∙ pick_true _ _ (unfold bare in bare_zero)
      ∙ (λ i. released g (linked B J (p i) (z i)) st.at)
