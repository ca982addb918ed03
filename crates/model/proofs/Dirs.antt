-- The laws of the edits of one directory: what is put in and taken out again leaves it as it was.
use mathlib.Core.Path.{◌≡◌, refl, sym, ap, ◌∙◌}
use mathlib.Core.Bool.{true, false}
use mathlib.Core.Logic.{◌⊎◌, inl, inr}
use mathlib.Core.Option.{Option, none, some}
use mathlib.Core.List.{List, [], ◌∷◌, ◌++◌}
use Prim.Native.Nat.{ℕ, ◌+◌, ◌≤◌}
use native.Mathlib.Omega.{arith}
use lib.Dec.{leb}
use lib.ListN.{length}
use Rattle.wire.specs.Pick.{same}
use Rattle.wire.proofs.Picks.{either, pick_true, pick_false}
use Rattle.model.specs.Tree.{Name, Entry, Block, any, first, on_first, less_first, then, called, holds, Absent, lookup, weight, used, Filled, Packed, fill, insert, change, unless_bare, delete_later, delete}
use Rattle.model.proofs.Lists.{not_some, then_some, any_here, any_there, any_last, any-on_first, first_passes, first_on_first, on_first_here, on_first_there, on_first-none, on_first_last, on_first_twice, on_first_ext, on_first_same, less_first_here, less_first_last, none_head, none_tail}

module _ {X : Type 0} where
  -- a change that keeps the name
  abbrev pub Keeps : (Entry X → Entry X) → Type 0
  Keeps h = (e : Entry X) → (h e).name ≡ e.name

  called_keep : (n : Name) (h : Entry X → Entry X) → Keeps h → (e : Entry X) → called n e ≡ true → called n (h e) ≡ true
  unfolding called
  called_keep n h k e c = ap (same n) (k e) ∙ c

  -- the change of one entry, in a block that holds it
  holds-change : (n : Name) (h : Entry X → Entry X) → Keeps h → (b : Block X) → holds n b ≡ true → holds n (fill (on_first (called n) h) b) ≡ true
  unfolding holds
  holds-change n h k b c = any-on_first (called n) h (called_keep n h k) b.entries c

  pub change_twice : (n : Name) (h k : Entry X → Entry X) → Keeps k → (bs : List (Block X)) → change n h (change n k bs) ≡ change n (λ e. h (k e)) bs
  unfolding change
  change_twice n h k s bs =
      on_first_twice (holds n) (fill (on_first (called n) h)) (fill (on_first (called n) k)) (λ b c. holds-change n k s b c) bs
      ∙ on_first_ext (holds n) (λ b. fill (on_first (called n) h) (fill (on_first (called n) k) b)) (fill (on_first (called n) (λ e. h (k e)))) bs
      (λ b f. ap (λ (es : List (Entry X)). let r : Block X = record { at = b.at; entries = es } in r) (on_first_twice (called n) h k (called_keep n k s) b.entries))

  -- only what is done to the entry of that name counts
  pub change_ext : (n : Name) (h k : Entry X → Entry X) (bs : List (Block X)) → ((e : Entry X) → lookup n bs ≡ some e → h e ≡ k e) → change n h bs ≡ change n k bs
  unfolding change lookup
  change_ext n h k bs s =
      on_first_ext (holds n) (fill (on_first (called n) h)) (fill (on_first (called n) k)) bs
      (λ b f. ap (λ (es : List (Entry X)). let r : Block X = record { at = b.at; entries = es } in r)
      (on_first_ext (called n) h k b.entries (λ e g. s e (then_some (λ c. first (called n) c.entries) f ∙ g))))

  pub change_same : (n : Name) (h : Entry X → Entry X) (bs : List (Block X)) → ((e : Entry X) → lookup n bs ≡ some e → h e ≡ e) → change n h bs ≡ bs
  unfolding change lookup
  change_same n h bs s =
      on_first_same (holds n) (fill (on_first (called n) h)) bs
      (λ b f. ap (λ (es : List (Entry X)). let r : Block X = record { at = b.at; entries = es } in r)
      (on_first_same (called n) h b.entries (λ e g. s e (then_some (λ c. first (called n) c.entries) f ∙ g))))

  pub lookup-change : (n : Name) (h : Entry X → Entry X) → Keeps h → (bs : List (Block X)) (e : Entry X) → lookup n bs ≡ some e → lookup n (change n h bs) ≡ some (h e)
  unfolding change lookup then
  lookup-change n h k bs e l = go (first (holds n) bs) refl
    where
      go : (o : Option (Block X)) → first (holds n) bs ≡ o → lookup n (change n h bs) ≡ some (h e)
      go none f = absurd (not_some (ap (λ (o : Option (Block X)). then o (λ c. first (called n) c.entries)) f) l)
      go (some b) f =
          let i : first (called n) b.entries ≡ some e = sym (then_some (λ c. first (called n) c.entries) f) ∙ l in
          then_some (λ c. first (called n) c.entries)
          (first_on_first (holds n) (fill (on_first (called n) h)) bs b f (holds-change n h k b (first_passes (holds n) bs b f)))
          ∙ first_on_first (called n) h b.entries e i (called_keep n h k e (first_passes (called n) b.entries e i))

  -- nothing of that name
  pub change_absent : (n : Name) (h : Entry X → Entry X) (bs : List (Block X)) → Absent n bs → change n h bs ≡ bs
  unfolding change
  change_absent n h bs a = on_first-none (holds n) (fill (on_first (called n) h)) bs a

  later_absent : (n : Name) (bs : List (Block X)) → Absent n bs → delete_later n bs ≡ bs
  unfolding delete_later
  later_absent n [] a = refl
  later_absent n (b ∷ bs) a = pick_false _ _ (none_head (holds n) b bs a) ∙ ap (λ (l : List (Block X)). b ∷ l) (later_absent n bs (none_tail (holds n) b bs a))

  pub delete_absent : (n : Name) (bs : List (Block X)) → Absent n bs → delete n bs ≡ bs
  unfolding delete
  delete_absent n [] a = refl
  delete_absent n (b ∷ bs) a = pick_false _ _ (none_head (holds n) b bs a) ∙ ap (λ (l : List (Block X)). b ∷ l) (later_absent n bs (none_tail (holds n) b bs a))

  -- a block that keeps an entry stays
  pub not_bare : (a : ℕ) (es : List (Entry X)) (bs : List (Block X)) → 1 ≤ length es → unless_bare a es bs ≡ record { at = a; entries = es } ∷ bs
  unfolding unless_bare
  not_bare a [] bs h = absurd (omega arith)
  not_bare a (e ∷ es) bs h = refl

  -- An entry of the name n is put in.
  module _ (cap w : ℕ) (n : Name) (e : Entry X) (c : called n e ≡ true) where
    with : Block X → Block X
    with b = fill (λ es. es ++ (e ∷ [])) b

    holds_with : (b : Block X) → holds n (with b) ≡ true
    unfolding holds with
    holds_with b = any_last (called n) e c b.entries

    holds_new : holds n (record { at = w; entries = e ∷ [] }) ≡ true
    unfolding holds
    holds_new = any_here (called n) e [] c

    pub insert_there : (bs : List (Block X)) → any (holds n) (insert cap w e bs) ≡ true
    unfolding insert with
    insert_there [] = any_here (holds n) _ [] holds_new
    insert_there (b ∷ bs) = go (either (leb (used b.entries + weight e) cap)) (insert_there bs)
      where
        go : (leb (used b.entries + weight e) cap ≡ true) ⊎ (leb (used b.entries + weight e) cap ≡ false) → any (holds n) (insert cap w e bs) ≡ true → any (holds n) (insert cap w e (b ∷ bs)) ≡ true
        go (inl r) i = ap (any (holds n)) (pick_true (with b ∷ bs) (b ∷ insert cap w e bs) r) ∙ any_here (holds n) (with b) bs (holds_with b)
        go (inr r) i = ap (any (holds n)) (pick_false (with b ∷ bs) (b ∷ insert cap w e bs) r) ∙ in_tail (either (holds n b))
          where
            in_tail : (holds n b ≡ true) ⊎ (holds n b ≡ false) → any (holds n) (b ∷ insert cap w e bs) ≡ true
            in_tail (inl y) = any_here (holds n) b _ y
            in_tail (inr y) = any_there (holds n) b _ y ∙ i

    -- changed at once
    pub change-insert : (h : Entry X → Entry X) → Keeps h → (bs : List (Block X)) → Absent n bs → change n h (insert cap w e bs) ≡ insert cap w (h e) bs
    unfolding change insert weight with
    change-insert h k [] a =
        on_first_here (holds n) _ [] holds_new (fill (on_first (called n) h))
        ∙ ap (λ (es : List (Entry X)). let r : Block X = record { at = w; entries = es } in r ∷ []) (on_first_here (called n) e [] c h)
    change-insert h k (b ∷ bs) a = go (either (leb (used b.entries + weight e) cap)) (change-insert h k bs (none_tail (holds n) b bs a))
      where
        no : holds n b ≡ false
        no = none_head (holds n) b bs a

        wt : weight (h e) ≡ weight e
        wt = ap (λ (m : Name). 18 + length m) (k e)

        put : (r : leb (used b.entries + weight e) cap ≡ true) → insert cap w (h e) (b ∷ bs) ≡ fill (λ es. es ++ (h e ∷ [])) b ∷ bs
        put r = pick_true _ _ (ap (λ (z : ℕ). leb (used b.entries + z) cap) wt ∙ r)

        go : (leb (used b.entries + weight e) cap ≡ true) ⊎ (leb (used b.entries + weight e) cap ≡ false)
            → change n h (insert cap w e bs) ≡ insert cap w (h e) bs → change n h (insert cap w e (b ∷ bs)) ≡ insert cap w (h e) (b ∷ bs)
        go (inl r) i =
            ap (change n h) (pick_true (with b ∷ bs) (b ∷ insert cap w e bs) r)
            ∙ on_first_here (holds n) (with b) bs (holds_with b) (fill (on_first (called n) h))
            ∙ ap (λ (es : List (Entry X)). let x : Block X = record { at = b.at; entries = es } in x ∷ bs) (on_first_last (called n) e c h b.entries (unfold holds in no))
            ∙ sym (put r)
        go (inr r) i =
            ap (change n h) (pick_false (with b ∷ bs) (b ∷ insert cap w e bs) r)
            ∙ on_first_there (holds n) b (insert cap w e bs) no (fill (on_first (called n) h))
            ∙ ap (λ (l : List (Block X)). b ∷ l) i
            ∙ sym (pick_false _ _ (ap (λ (z : ℕ). leb (used b.entries + z) cap) wt ∙ r))

    -- taken out again
    less : (b : Block X) → holds n b ≡ false → less_first (called n) (b.entries ++ (e ∷ [])) ≡ b.entries
    unfolding holds
    less b a = less_first_last (called n) e c b.entries a

    later_insert : (bs : List (Block X)) → Absent n bs → Filled bs → delete_later n (insert cap w e bs) ≡ bs
    unfolding delete_later insert unless_bare with
    later_insert [] a f = pick_true _ _ holds_new ∙ ap (λ (es : List (Entry X)). unless_bare w es []) (less_first_here (called n) e [] c)
    later_insert (b ∷ bs) a f = go (either (leb (used b.entries + weight e) cap)) (later_insert bs (none_tail (holds n) b bs a) f.1)
      where
        no : holds n b ≡ false
        no = none_head (holds n) b bs a

        go : (leb (used b.entries + weight e) cap ≡ true) ⊎ (leb (used b.entries + weight e) cap ≡ false)
            → delete_later n (insert cap w e bs) ≡ bs → delete_later n (insert cap w e (b ∷ bs)) ≡ b ∷ bs
        go (inl r) i =
            ap (delete_later n) (pick_true (with b ∷ bs) (b ∷ insert cap w e bs) r)
            ∙ pick_true _ _ (holds_with b)
            ∙ ap (λ (es : List (Entry X)). unless_bare b.at es bs) (less b no)
            ∙ not_bare b.at b.entries bs f.0
        go (inr r) i =
            ap (delete_later n) (pick_false (with b ∷ bs) (b ∷ insert cap w e bs) r)
            ∙ pick_false _ _ no
            ∙ ap (λ (l : List (Block X)). b ∷ l) i

    pub delete-insert : (bs : List (Block X)) → Absent n bs → Packed bs → delete n (insert cap w e bs) ≡ bs
    unfolding delete insert with
    delete-insert [] a f = absurd f
    delete-insert (b ∷ bs) a f = go (either (leb (used b.entries + weight e) cap))
      where
        no : holds n b ≡ false
        no = none_head (holds n) b bs a

        go : (leb (used b.entries + weight e) cap ≡ true) ⊎ (leb (used b.entries + weight e) cap ≡ false) → delete n (insert cap w e (b ∷ bs)) ≡ b ∷ bs
        go (inl r) =
            ap (delete n) (pick_true (with b ∷ bs) (b ∷ insert cap w e bs) r)
            ∙ pick_true _ _ (holds_with b)
            ∙ ap (λ (es : List (Entry X)). let x : Block X = record { at = b.at; entries = es } in x ∷ bs) (less b no)
        go (inr r) =
            ap (delete n) (pick_false (with b ∷ bs) (b ∷ insert cap w e bs) r)
            ∙ pick_false _ _ no
            ∙ ap (λ (l : List (Block X)). b ∷ l) (later_insert bs (none_tail (holds n) b bs a) f)
