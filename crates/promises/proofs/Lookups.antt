-- What a name gives in a directory after an entry was added or taken out.
use mathlib.Core.Path.{◌≡◌, refl, sym, ap, ◌∙◌}
use mathlib.Core.Bool.{Bool, true, false}
use mathlib.Core.Logic.{◌⊎◌, inl, inr}
use mathlib.Core.Option.{none, some}
use mathlib.Core.List.{List, [], ◌∷◌, ◌++◌, append_assoc}
use Prim.Native.Nat.{ℕ, ◌+◌}
use lib.Dec.{leb}
use Rattle.wire.specs.Pick.{same}
use Rattle.wire.proofs.Picks.{either, not_both, pick_true, pick_false, same_eq, same_refl}
use Rattle.model.specs.Tree.{Name, Entry, Block, any, first, less_first, entries_of, called, holds, lookup, used, weight, Absent, fill, insert, unless_bare, delete_later, delete}
use Rattle.model.proofs.Lists.{not_some, any_here, any_there, first_here, first_there, less_first_here, less_first_there}
use Rattle.model.proofs.Reached.{lookup_entries}
use Rattle.thm_path.proofs.Resolves.{absent_none}

-- ---- lists

module _ {A : Type 0} (q : A → Bool) where
  -- one more that does not pass
  first_past : (x : A) → q x ≡ false → (xs ys : List A) → first q (xs ++ (x ∷ ys)) ≡ first q (xs ++ ys)
  first_past x c [] ys = first_there q x ys c
  first_past x c (y ∷ xs) ys = go (either (q y)) (first_past x c xs ys)
    where
      go : (q y ≡ true) ⊎ (q y ≡ false) → first q (xs ++ (x ∷ ys)) ≡ first q (xs ++ ys) → first q (y ∷ (xs ++ (x ∷ ys))) ≡ first q (y ∷ (xs ++ ys))
      go (inl d) r = first_here q y _ d ∙ sym (first_here q y _ d)
      go (inr d) r = first_there q y _ d ∙ r ∙ sym (first_there q y _ d)

  -- the only one that passes
  first_only : (x : A) → q x ≡ true → (xs ys : List A) → first q (xs ++ ys) ≡ none → first q (xs ++ (x ∷ ys)) ≡ some x
  first_only x c [] ys h = first_here q x ys c
  first_only x c (y ∷ xs) ys h = go (either (q y)) (first_only x c xs ys)
    where
      go : (q y ≡ true) ⊎ (q y ≡ false) → (first q (xs ++ ys) ≡ none → first q (xs ++ (x ∷ ys)) ≡ some x) → first q (y ∷ (xs ++ (x ∷ ys))) ≡ some x
      go (inl d) r = absurd (not_some h (first_here q y _ d))
      go (inr d) r = first_there q y _ d ∙ r (sym (first_there q y _ d) ∙ h)

  -- without the first of those that do not pass
  first_less : (r : A → Bool) → ((x : A) → r x ≡ true → q x ≡ false) → (l : List A) → first q (less_first r l) ≡ first q l
  unfolding less_first
  first_less r h [] = refl
  first_less r h (x ∷ l) = go (either (r x)) (either (q x)) (first_less r h l)
    where
      go : (r x ≡ true) ⊎ (r x ≡ false) → (q x ≡ true) ⊎ (q x ≡ false) → first q (less_first r l) ≡ first q l → first q (less_first r (x ∷ l)) ≡ first q (x ∷ l)
      go (inl c) d s = ap (first q) (less_first_here r x l c) ∙ sym (first_there q x l (h x c))
      go (inr c) (inl d) s = ap (first q) (less_first_there r x l c) ∙ first_here q x _ d ∙ sym (first_here q x l d)
      go (inr c) (inr d) s = ap (first q) (less_first_there r x l c) ∙ first_there q x _ d ∙ s ∙ sym (first_there q x l d)

  less_left : (xs ys : List A) → any q xs ≡ true → less_first q (xs ++ ys) ≡ less_first q xs ++ ys
  unfolding any
  less_left [] ys h = absurd (not_both h refl)
  less_left (x ∷ xs) ys h = go (either (q x)) (less_left xs ys)
    where
      go : (q x ≡ true) ⊎ (q x ≡ false) → (any q xs ≡ true → less_first q (xs ++ ys) ≡ less_first q xs ++ ys) → less_first q (x ∷ (xs ++ ys)) ≡ less_first q (x ∷ xs) ++ ys
      go (inl c) r = less_first_here q x _ c ∙ ap (λ (l : List A). l ++ ys) (sym (less_first_here q x xs c))
      go (inr c) r =
          less_first_there q x _ c ∙ ap (λ (l : List A). x ∷ l) (r (sym (any_there q x xs c) ∙ h)) ∙ ap (λ (l : List A). l ++ ys) (sym (less_first_there q x xs c))

  less_right : (xs ys : List A) → any q xs ≡ false → less_first q (xs ++ ys) ≡ xs ++ less_first q ys
  less_right [] ys h = refl
  less_right (x ∷ xs) ys h = go (either (q x)) (less_right xs ys)
    where
      go : (q x ≡ true) ⊎ (q x ≡ false) → (any q xs ≡ false → less_first q (xs ++ ys) ≡ xs ++ less_first q ys) → less_first q (x ∷ (xs ++ ys)) ≡ x ∷ (xs ++ less_first q ys)
      go (inl c) r = absurd (not_both (any_here q x xs c) h)
      go (inr c) r = less_first_there q x _ c ∙ ap (λ (l : List A). x ∷ l) (r (sym (any_there q x xs c) ∙ h))

-- ---- a directory's entries as one list

-- a new entry stands somewhere among them
record Placed {X : Type 0} (e : Entry X) (es fs : List (Entry X)) : Type 0 where
  left : List (Entry X)
  right : List (Entry X)
  before : es ≡ left ++ right
  after : fs ≡ left ++ (e ∷ right)

module _ {X : Type 0} where
  insert_entries : (cap w : ℕ) (e : Entry X) (bs : List (Block X)) → Placed e (entries_of bs) (entries_of (insert cap w e bs))
  unfolding insert entries_of
  insert_entries cap w e [] = record { left = []; right = []; before = refl; after = refl }
  insert_entries cap w e (b ∷ bs) = go (either (leb (used b.entries + weight e) cap)) (insert_entries cap w e bs)
    where
      go : (leb (used b.entries + weight e) cap ≡ true) ⊎ (leb (used b.entries + weight e) cap ≡ false) → Placed e (entries_of bs) (entries_of (insert cap w e bs))
          → Placed e (entries_of (b ∷ bs)) (entries_of (insert cap w e (b ∷ bs)))
      go (inl c) r =
          record {
            left = b.entries;
            right = entries_of bs;
            before = refl;
            after = ap entries_of (pick_true (fill (λ es. es ++ (e ∷ [])) b ∷ bs) (b ∷ insert cap w e bs) c) ∙ append_assoc b.entries (e ∷ []) (entries_of bs);
          }
      go (inr c) r =
          record {
            left = b.entries ++ r.left;
            right = r.right;
            before = ap (λ (l : List (Entry X)). b.entries ++ l) r.before ∙ sym (append_assoc b.entries r.left r.right);
            after =
                ap entries_of (pick_false (fill (λ es. es ++ (e ∷ [])) b ∷ bs) (b ∷ insert cap w e bs) c)
                ∙ ap (λ (l : List (Entry X)). b.entries ++ l) r.after ∙ sym (append_assoc b.entries r.left (e ∷ r.right));
          }

  bare_entries : (a : ℕ) (es : List (Entry X)) (bs : List (Block X)) → entries_of (unless_bare a es bs) ≡ es ++ entries_of bs
  unfolding unless_bare entries_of
  bare_entries a [] bs = refl
  bare_entries a (e ∷ es) bs = refl

  module _ (n : Name) (b : Block X) (bs : List (Block X)) where
    block_less : holds n b ≡ true → less_first (called n) (entries_of (b ∷ bs)) ≡ less_first (called n) b.entries ++ entries_of bs
    unfolding holds entries_of
    block_less c = less_left (called n) b.entries (entries_of bs) c

    later_less : holds n b ≡ false → less_first (called n) (entries_of (b ∷ bs)) ≡ b.entries ++ less_first (called n) (entries_of bs)
    unfolding holds entries_of
    later_less c = less_right (called n) b.entries (entries_of bs) c

  later_entries : (n : Name) (bs : List (Block X)) → entries_of (delete_later n bs) ≡ less_first (called n) (entries_of bs)
  unfolding delete_later entries_of less_first
  later_entries n [] = refl
  later_entries n (b ∷ bs) = go (either (holds n b)) (later_entries n bs)
    where
      go : (holds n b ≡ true) ⊎ (holds n b ≡ false) → entries_of (delete_later n bs) ≡ less_first (called n) (entries_of bs) → entries_of (delete_later n (b ∷ bs)) ≡ less_first (called n) (entries_of (b ∷ bs))
      go (inl c) r =
          ap entries_of (pick_true (unless_bare b.at (less_first (called n) b.entries) bs) (b ∷ delete_later n bs) c)
          ∙ bare_entries b.at (less_first (called n) b.entries) bs ∙ sym (block_less n b bs c)
      go (inr c) r =
          ap entries_of (pick_false (unless_bare b.at (less_first (called n) b.entries) bs) (b ∷ delete_later n bs) c)
          ∙ ap (λ (l : List (Entry X)). b.entries ++ l) r ∙ sym (later_less n b bs c)

  -- A delete takes the first entry of the name out.
  pub delete_entries : (n : Name) (bs : List (Block X)) → entries_of (delete n bs) ≡ less_first (called n) (entries_of bs)
  unfolding delete entries_of less_first
  delete_entries n [] = refl
  delete_entries n (b ∷ bs) = go (either (holds n b))
    where
      go : (holds n b ≡ true) ⊎ (holds n b ≡ false) → entries_of (delete n (b ∷ bs)) ≡ less_first (called n) (entries_of (b ∷ bs))
      go (inl c) = ap entries_of (pick_true (fill (less_first (called n)) b ∷ bs) (b ∷ delete_later n bs) c) ∙ sym (block_less n b bs c)
      go (inr c) =
          ap entries_of (pick_false (fill (less_first (called n)) b ∷ bs) (b ∷ delete_later n bs) c)
          ∙ ap (λ (l : List (Entry X)). b.entries ++ l) (later_entries n bs) ∙ sym (later_less n b bs c)

  -- ---- what a name gives

  -- an entry of one name has no other
  one_name : (n m : Name) → (n ≡ m → ⊥) → (e : Entry X) → called n e ≡ true → called m e ≡ false
  unfolding called
  one_name n m d e c = go (either (same m e.name))
    where
      go : (same m e.name ≡ true) ⊎ (same m e.name ≡ false) → same m e.name ≡ false
      go (inl y) = absurd (d (same_eq n e.name c ∙ sym (same_eq m e.name y)))
      go (inr y) = y

  -- an entry has its own name
  pub called_own : (n : Name) (e : Entry X) → e.name ≡ n → called n e ≡ true
  unfolding called
  called_own n e h = ap (same n) h ∙ same_refl n

  module _ (cap w : ℕ) (n : Name) (e : Entry X) (c : called n e ≡ true) (bs : List (Block X)) where
    -- the new entry, by its own name;
    pub lookup-inserted : Absent n bs → lookup n (insert cap w e bs) ≡ some e
    lookup-inserted a =
        let p = insert_entries cap w e bs in
        let none_yet : first (called n) (p.left ++ p.right) ≡ none = ap (first (called n)) (sym p.before) ∙ sym (lookup_entries n bs) ∙ absent_none n bs a in
        lookup_entries n (insert cap w e bs) ∙ ap (first (called n)) p.after ∙ first_only (called n) e c p.left p.right none_yet

    -- what was there, by another.
    pub lookup-insert_other : (m : Name) → (n ≡ m → ⊥) → lookup m (insert cap w e bs) ≡ lookup m bs
    lookup-insert_other m d =
        let p = insert_entries cap w e bs in
        lookup_entries m (insert cap w e bs) ∙ ap (first (called m)) p.after ∙ first_past (called m) e (one_name n m d e c) p.left p.right
        ∙ ap (first (called m)) (sym p.before) ∙ sym (lookup_entries m bs)

  -- After a delete another name gives what it gave.
  pub lookup-delete_other : (n m : Name) → (n ≡ m → ⊥) → (bs : List (Block X)) → lookup m (delete n bs) ≡ lookup m bs
  lookup-delete_other n m d bs =
      lookup_entries m (delete n bs) ∙ ap (first (called m)) (delete_entries n bs) ∙ first_less (called m) (called n) (one_name n m d) (entries_of bs) ∙ sym (lookup_entries m bs)
