-- A file's entry on the tree: where it stands, and what a write of it does to the pieces of the whole tree.
use mathlib.Core.Path.{◌≡◌, refl, sym, ap, ◌∙◌, subst}
use mathlib.Core.Bool.{true, false}
use mathlib.Core.Logic.{◌⊎◌, inl, inr}
use mathlib.Core.Option.{some}
use mathlib.Core.List.{List, [], ◌∷◌, ◌++◌, append_assoc}
use Prim.Native.Nat.{ℕ, zero, suc, ◌+◌, ◌-◌, ◌≤◌}
use native.Mathlib.Omega.{arith}
use lib.ListN.{length}
use Rattle.wire.specs.Be.{bytes}
use Rattle.wire.specs.Pick.{pick}
use Rattle.wire.proofs.Picks.{either, pick_true, pick_false}
use Rattle.model.specs.Tree.{Name, Cell, sub, Entry, Block, Below, Tree, first, then, called, holds, lookup, weight, used, change, Edit, renew, edit, Some, find}
use Rattle.model.specs.Render.{Piece, View, padded, entry_bytes, node_pieces, entry_pieces, dir_pieces, view, render, ats, count, offset, place_of}
use Rattle.model.specs.Volume.{All, GoodBlock}
use Rattle.model.specs.Calls.{refiled, rewritten}
use Rattle.model.proofs.Alike.{change_at, change-sum, entry_above}
use Rattle.model.proofs.Counts.{count_same, count_cons, count_append, ats-append}
use Rattle.model.proofs.Cuts.{Cut, cut_here, cut_in, own_cut, cut_to}
use Rattle.model.proofs.Edits.{refiled_name}
use Rattle.model.proofs.Lists.{not_some, first_there}
use Rattle.model.proofs.Others.{lookup_here, lookup_there}
use Rattle.read_dir.specs.declared.Place.{Place}
use Rattle.read_dir.specs.Finds.{placed}
use Rattle.thm_walk.specs.Shown.{spot_of}

-- ---- the place of an entry

module _ {X : Type 0} (n : Name) where
  lookup-none : (e : Entry X) → lookup n [] ≡ some e → ⊥
  unfolding lookup first then
  lookup-none e l = not_some refl l

  -- an entry that is found ends with the used bytes at the latest
  offset_fits : (es : List (Entry X)) (e : Entry X) → first (called n) es ≡ some e → offset n es + 18 ≤ used es
  unfolding offset used weight first
  offset_fits [] e f = absurd (not_some refl f)
  offset_fits (x ∷ es) e f = go (either (called n x)) (offset_fits es e)
    where
      go : (called n x ≡ true) ⊎ (called n x ≡ false) → (first (called n) es ≡ some e → offset n es + 18 ≤ used es) → offset n (x ∷ es) + 18 ≤ used (x ∷ es)
      go (inl c) r = omega (arith, pick_true 0 (18 + length x.name + offset n es) c)
      go (inr c) r = omega (arith, pick_false 0 (18 + length x.name + offset n es) c, r (sym (first_there (called n) x es c) ∙ f))

  -- it ends in its block,
  pub spot_fits : (B : ℕ) (S : X → Type 0) (bs : List (Block X)) (e : Entry X) → All (GoodBlock B S) bs → lookup n bs ≡ some e → (spot_of n bs).offset + 18 ≤ B - 5
  unfolding spot_of
  spot_fits B S [] e a l = absurd (lookup-none e l)
  spot_fits B S (b ∷ bs) e a l = go (either (holds n b)) (spot_fits B S bs e a.1)
    where
      go : (holds n b ≡ true) ⊎ (holds n b ≡ false) → (lookup n bs ≡ some e → (spot_of n bs).offset + 18 ≤ B - 5) → (spot_of n (b ∷ bs)).offset + 18 ≤ B - 5
      go (inl c) r =
          omega (arith, ap (λ (q : Place). q.offset) (pick_true (placed b.at (offset n b.entries)) (spot_of n bs) c), offset_fits b.entries e (sym (lookup_here n b bs c) ∙ l), a.0.fits)
      go (inr c) r =
          omega (arith, ap (λ (q : Place). q.offset) (pick_false (placed b.at (offset n b.entries)) (spot_of n bs) c), r (sym (lookup_there n b bs c) ∙ l))

  -- which is one of the directory's
  pub spot_block : (B : ℕ) (v : View X) (bs : List (Block X)) (e : Entry X) → lookup n bs ≡ some e → 1 ≤ count (spot_of n bs).block.0 (ats (dir_pieces B v bs))
  unfolding spot_of dir_pieces ats
  spot_block B v [] e l = absurd (lookup-none e l)
  spot_block B v (b ∷ bs) e l = go (either (holds n b)) (spot_block B v bs e)
    where
      all : (i : ℕ) → count i (b.at ∷ ats (entry_pieces v b.entries ++ dir_pieces B v bs)) ≡ count i (b.at ∷ []) + (count i (ats (entry_pieces v b.entries)) + count i (ats (dir_pieces B v bs)))
      all i =
          count_cons i b.at (ats (entry_pieces v b.entries ++ dir_pieces B v bs))
          ∙ ap (λ (l : List ℕ). count i (b.at ∷ []) + count i l) (ats-append (entry_pieces v b.entries) (dir_pieces B v bs))
          ∙ ap (λ (k : ℕ). count i (b.at ∷ []) + k) (count_append i (ats (entry_pieces v b.entries)) (ats (dir_pieces B v bs)))

      go : (holds n b ≡ true) ⊎ (holds n b ≡ false) → (lookup n bs ≡ some e → 1 ≤ count (spot_of n bs).block.0 (ats (dir_pieces B v bs)))
          → 1 ≤ count (pick (holds n b) (placed b.at (offset n b.entries)) (spot_of n bs)).block.0 (b.at ∷ ats (entry_pieces v b.entries ++ dir_pieces B v bs))
      go (inl c) r =
          subst (λ (q : Place). 1 ≤ count q.block.0 (b.at ∷ ats (entry_pieces v b.entries ++ dir_pieces B v bs))) (sym (pick_true (placed b.at (offset n b.entries)) (spot_of n bs) c))
          (omega (arith, all b.at, count_same b.at b.at [] refl))
      go (inr c) r =
          subst (λ (q : Place). 1 ≤ count q.block.0 (b.at ∷ ats (entry_pieces v b.entries ++ dir_pieces B v bs))) (sym (pick_false (placed b.at (offset n b.entries)) (spot_of n bs) c))
          (omega (arith, all (spot_of n bs).block.0, r (sym (lookup_there n b bs c) ∙ l)))

-- ---- the pieces of the whole tree

module _ (B : ℕ) (n : Name) (now z : ℕ) (es : List Cell) where
  -- what a write makes of the entry of that name
  abbrev pub new_entry : {X : Type 0} → Entry X → Entry X
  new_entry x = refiled now z es x.name x.time x.node

  new_dir : Edit
  new_dir e bs = change n new_entry bs

  -- the pieces of the directory's own entry stay
  own_same : (e : ℕ) (s : Tree e) (m : Name) (k : ℕ)
      → entry_bytes (view B (suc e)) (record { name = m; time = k; node = sub s }) ≡ entry_bytes (view B (suc e)) (record { name = m; time = k; node = sub (new_dir e s) })
  unfolding renew new_dir
  own_same e s m k =
      entry_above (λ _. ⊥) B e (λ t. change n new_entry t) (λ c. c) (change_at n new_entry) (change-sum n new_entry (λ x. refiled_name now z es x.name x.time x.node)) (λ c. refl) m k (sub s)

  FileCut : (d : ℕ) → Tree d → Tree d → Some → Type 0
  FileCut d t u s = (x : Entry (Below s.0)) → lookup n s.1 ≡ some x
      → Cut B (render B d t) (render B d u) (node_pieces (view B s.0) x.node) (node_pieces (view B s.0) (new_entry x).node) (place_of B n s.1)
      (entry_bytes (view B s.0) x) (entry_bytes (view B s.0) (new_entry x))

  cut_dir : (d : ℕ) (t : Tree d) → FileCut d t (new_dir d t) (d, t)
  unfolding FileCut new_dir render
  cut_dir d t x l = cut_here B (view B d) n new_entry t x l

  cut_below : (d : ℕ) (m : Name) (p : List Name) (t : Tree d) (s : Some) → find d (m ∷ p) t ≡ some s → FileCut d t (edit d (m ∷ p) (λ k. k) new_dir t) s
  unfolding FileCut
  cut_below d m p t s f x l =
      let o = own_cut B d m p (λ k. k) new_dir t s f in
      let c = o.cut in
      let E : List ℕ = entry_bytes (view B (suc s.0)) (record { name = o.name; time = o.time; node = sub s.1 }) in
      let P : List ℕ → Piece = λ y. record { at = c.at; full = bytes 4 c.next ++ padded (B - 4) (c.low ++ (y ++ c.high)) } in
      let A : List Piece = c.before ++ (P E ∷ c.between) in
      cut_to B _ _ _ _ _ _ _ _ _
      (c.old ∙ sym (append_assoc c.before (P E ∷ c.between) (render B s.0 s.1 ++ c.after)))
      (c.new ∙ ap (λ (y : List ℕ). c.before ++ (P y ∷ (c.between ++ (render B s.0 (new_dir s.0 s.1) ++ c.after)))) (sym (own_same s.0 s.1 o.name o.time))
      ∙ sym (append_assoc c.before (P E ∷ c.between) (render B s.0 (new_dir s.0 s.1) ++ c.after)))
      (cut_in B _ _ _ _ _ _ _ A c.after (unfold FileCut in cut_dir s.0 s.1 x l))

  -- A write replaces the file's pieces, and renews its entry in one block; all else stays.
  pub file_cut : (d : ℕ) (p : List Name) (t : Tree d) (s : Some) → find d p t ≡ some s → (x : Entry (Below s.0)) → lookup n s.1 ≡ some x
      → Cut B (render B d t) (render B d (rewritten d p n now z es t)) (node_pieces (view B s.0) x.node) (node_pieces (view B s.0) (new_entry x).node) (place_of B n s.1)
      (entry_bytes (view B s.0) x) (entry_bytes (view B s.0) (new_entry x))
  unfolding rewritten edit find FileCut new_dir
  file_cut zero [] t s f = let k : (zero, t) ≡ s = cc in subst (FileCut zero t (new_dir zero t)) k (unfold FileCut new_dir in cut_dir zero t)
  file_cut (suc d) [] t s f = let k : (suc d, t) ≡ s = cc in subst (FileCut (suc d) t (new_dir (suc d) t)) k (unfold FileCut new_dir in cut_dir (suc d) t)
  file_cut zero (m ∷ p) t s f = absurd (not_some refl f)
  file_cut (suc d) (m ∷ p) t s f = unfold FileCut new_dir edit find in cut_below (suc d) m p t s f
