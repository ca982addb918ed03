-- A write to one file leaves every other file as it was (S3).
use mathlib.Core.Path.{◌≡◌, refl, sym, ap, ◌∙◌, subst}
use mathlib.Core.Bool.{true, false}
use mathlib.Core.Logic.{◌⊎◌, inl, inr}
use mathlib.Core.Option.{Option, none, some}
use mathlib.Core.List.{List, [], ◌∷◌}
use Prim.Native.Nat.{ℕ, zero, suc}
use Rattle.wire.specs.Pick.{same}
use Rattle.wire.proofs.Picks.{either, not_both, same_eq, same_refl}
use Rattle.model.specs.Tree.{Name, Cell, Node, file, device, sub, Entry, Block, Tree, any, first, on_first, then, called, holds, lookup, fill, change, Edit, renew, renewed, at_end, edit, inside}
use Rattle.model.specs.Calls.{file_of, file_at, refiled, rewritten}
use Rattle.model.proofs.Dirs.{Keeps, lookup-change, change_same}
use Rattle.model.proofs.Edits.{refiled_name, renewed_name}
use Rattle.model.proofs.Lists.{not_some, then_some, any_here, any_there, first_here, first_there, on_first_here, on_first_there}

module _ {X : Type 0} where
  pub lookup_here : (m : Name) (b : Block X) (bs : List (Block X)) → holds m b ≡ true → lookup m (b ∷ bs) ≡ first (called m) b.entries
  unfolding lookup
  lookup_here m b bs c = then_some (λ x. first (called m) x.entries) (first_here (holds m) b bs c)

  pub lookup_there : (m : Name) (b : Block X) (bs : List (Block X)) → holds m b ≡ false → lookup m (b ∷ bs) ≡ lookup m bs
  unfolding lookup
  lookup_there m b bs c = ap (λ (o : Option (Block X)). then o (λ x. first (called m) x.entries)) (first_there (holds m) b bs c)

  module _ (n m : Name) (differ : n ≡ m → ⊥) (h : Entry X → Entry X) (k : Keeps h) where
    not_called : (e : Entry X) → called n e ≡ true → called m e ≡ false
    unfolding called
    not_called e c = go (either (same m e.name))
      where
        go : (same m e.name ≡ true) ⊎ (same m e.name ≡ false) → same m e.name ≡ false
        go (inl y) = absurd (differ (same_eq n e.name c ∙ sym (same_eq m e.name y)))
        go (inr y) = y

    not_after : (e : Entry X) → called n e ≡ true → called m (h e) ≡ false
    unfolding called
    not_after e c = ap (same m) (k e) ∙ not_called e c

    -- in a list of entries
    first_other : (es : List (Entry X)) → first (called m) (on_first (called n) h es) ≡ first (called m) es
    unfolding on_first
    first_other [] = refl
    first_other (e ∷ es) = go (either (called n e)) (either (called m e)) (first_other es)
      where
        go : (called n e ≡ true) ⊎ (called n e ≡ false) → (called m e ≡ true) ⊎ (called m e ≡ false)
            → first (called m) (on_first (called n) h es) ≡ first (called m) es → first (called m) (on_first (called n) h (e ∷ es)) ≡ first (called m) (e ∷ es)
        go (inl c) y r = ap (first (called m)) (on_first_here (called n) e es c h) ∙ first_there (called m) (h e) es (not_after e c) ∙ sym (first_there (called m) e es (not_called e c))
        go (inr c) (inl y) r = ap (first (called m)) (on_first_there (called n) e es c h) ∙ first_here (called m) e _ y ∙ sym (first_here (called m) e es y)
        go (inr c) (inr y) r = ap (first (called m)) (on_first_there (called n) e es c h) ∙ first_there (called m) e _ y ∙ r ∙ sym (first_there (called m) e es y)

    any_other : (es : List (Entry X)) → any (called m) (on_first (called n) h es) ≡ any (called m) es
    unfolding on_first
    any_other [] = refl
    any_other (e ∷ es) = go (either (called n e)) (either (called m e)) (any_other es)
      where
        go : (called n e ≡ true) ⊎ (called n e ≡ false) → (called m e ≡ true) ⊎ (called m e ≡ false)
            → any (called m) (on_first (called n) h es) ≡ any (called m) es → any (called m) (on_first (called n) h (e ∷ es)) ≡ any (called m) (e ∷ es)
        go (inl c) y r = ap (any (called m)) (on_first_here (called n) e es c h) ∙ any_there (called m) (h e) es (not_after e c) ∙ sym (any_there (called m) e es (not_called e c))
        go (inr c) (inl y) r = ap (any (called m)) (on_first_there (called n) e es c h) ∙ any_here (called m) e _ y ∙ sym (any_here (called m) e es y)
        go (inr c) (inr y) r = ap (any (called m)) (on_first_there (called n) e es c h) ∙ any_there (called m) e _ y ∙ r ∙ sym (any_there (called m) e es y)

    -- in a directory
    pub lookup_other : (bs : List (Block X)) → lookup m (change n h bs) ≡ lookup m bs
    unfolding change on_first
    lookup_other [] = refl
    lookup_other (b ∷ bs) = go (either (holds n b)) (either (holds m b)) (lookup_other bs)
      where
        b' : Block X
        b' = fill (on_first (called n) h) b

        as_before : holds m b' ≡ holds m b
        as_before = unfold holds in any_other b.entries

        go : (holds n b ≡ true) ⊎ (holds n b ≡ false) → (holds m b ≡ true) ⊎ (holds m b ≡ false) → lookup m (change n h bs) ≡ lookup m bs → lookup m (change n h (b ∷ bs)) ≡ lookup m (b ∷ bs)
        go (inl c) (inl y) r =
            ap (lookup m) (on_first_here (holds n) b bs c (fill (on_first (called n) h))) ∙ lookup_here m b' bs (as_before ∙ y) ∙ first_other b.entries ∙ sym (lookup_here m b bs y)
        go (inl c) (inr y) r =
            ap (lookup m) (on_first_here (holds n) b bs c (fill (on_first (called n) h))) ∙ lookup_there m b' bs (as_before ∙ y) ∙ sym (lookup_there m b bs y)
        go (inr c) (inl y) r =
            ap (lookup m) (on_first_there (holds n) b bs c (fill (on_first (called n) h))) ∙ lookup_here m b _ y ∙ sym (lookup_here m b bs y)
        go (inr c) (inr y) r =
            ap (lookup m) (on_first_there (holds n) b bs c (fill (on_first (called n) h))) ∙ lookup_there m b _ y ∙ r ∙ sym (lookup_there m b bs y)

-- a name is another or not
pub name_or : (n m : Name) → (n ≡ m) ⊎ (n ≡ m → ⊥)
name_or n m = go (either (same n m))
  where
    go : (same n m ≡ true) ⊎ (same n m ≡ false) → (n ≡ m) ⊎ (n ≡ m → ⊥)
    go (inl e) = inl (same_eq n m e)
    go (inr e) = inr (λ k. not_both (ap (same n) (sym k) ∙ same_refl n) e)

module _ {X R : Type 0} (n a : Name) (h : Entry X → Entry X) (k : Keeps h) (o : Entry X → Option R) where
  -- what is read of the entry a, where h keeps what is read of n
  lookup_kept : ((e : Entry X) → n ≡ a → o (h e) ≡ o e) → (bs : List (Block X)) → then (lookup a (change n h bs)) o ≡ then (lookup a bs) o
  unfolding then
  lookup_kept s bs = go (name_or n a) (lookup n bs) refl
    where
      go : (n ≡ a) ⊎ (n ≡ a → ⊥) → (r : Option (Entry X)) → lookup n bs ≡ r → then (lookup a (change n h bs)) o ≡ then (lookup a bs) o
      go (inr d) r l = ap (λ (z : Option (Entry X)). then z o) (lookup_other n a d h k bs)
      go (inl e) (some x) l =
          subst (λ (z : Name). then (lookup z (change n h bs)) o ≡ then (lookup z bs) o) e
          (then_some o (lookup-change n h k bs x l) ∙ s x e ∙ sym (then_some o l))
      go (inl e) none l = subst (λ (z : Name). then (lookup z (change n h bs)) o ≡ then (lookup z bs) o) e (ap (λ (z : List (Block X)). then (lookup n z) o) (change_same n h bs (λ x f. absurd (not_some l f))))

-- what is read of an entry on the way to a file
refiled_inside : {X R : Type 0} (o : X → Option R) (now s : ℕ) (cs : List Cell) (n : Name) (k : ℕ) (x : Node X) → inside o (refiled now s cs n k x).node ≡ inside o x
unfolding refiled inside
refiled_inside o now s cs n k (file z ds) = refl
refiled_inside o now s cs n k (device z ds) = refl
refiled_inside o now s cs n k (sub x) = refl

renew_file : {X : Type 0} (f : X → X) (g : ℕ → ℕ) (n : Name) (k : ℕ) (x : Node X) → file_of (renew f g n k x).time (renew f g n k x).node ≡ file_of k x
unfolding renew file_of
renew_file f g n k (file z ds) = refl
renew_file f g n k (device z ds) = refl
renew_file f g n k (sub x) = refl

renew_inside : {X R : Type 0} (o : X → Option R) (f : X → X) → ((x : X) → o (f x) ≡ o x) → (g : ℕ → ℕ) (n : Name) (k : ℕ) (x : Node X) → inside o (renew f g n k x).node ≡ inside o x
unfolding renew inside
renew_inside o f s g n k (file z ds) = refl
renew_inside o f s g n k (device z ds) = refl
renew_inside o f s g n k (sub x) = s x

module _ (n m : Name) (now s : ℕ) (cs : List Cell) where
  write : Edit
  write e bs = change n (λ x. refiled now s cs x.name x.time x.node) bs

  others : (d : ℕ) (p q : List Name) → (p ≡ q → n ≡ m → ⊥) → (t : Tree d) → file_at d q m (edit d p (λ k. k) write t) ≡ file_at d q m t
  unfolding file_at edit write renewed
  others zero [] [] x t =
      lookup_kept n m (λ e. refiled now s cs e.name e.time e.node) (λ e. refiled_name now s cs e.name e.time e.node) (λ e. file_of e.time e.node) (λ e k. absurd (x refl k)) t
  others (suc d) [] [] x t =
      lookup_kept n m (λ e. refiled now s cs e.name e.time e.node) (λ e. refiled_name now s cs e.name e.time e.node) (λ e. file_of e.time e.node) (λ e k. absurd (x refl k)) t
  others zero [] (a ∷ q) x t = refl
  others (suc d) [] (a ∷ q) x t =
      lookup_kept n a (λ e. refiled now s cs e.name e.time e.node) (λ e. refiled_name now s cs e.name e.time e.node) (λ e. inside (file_at d q m) e.node)
      (λ e k. refiled_inside (file_at d q m) now s cs e.name e.time e.node) t
  others zero (b ∷ p) q x t = refl
  others (suc d) (b ∷ p) [] x t =
      lookup_kept b m (renewed (edit d p (λ k. k) write) (at_end p (λ k. k))) (renewed_name _ _) (λ e. file_of e.time e.node)
      (λ e k. renew_file (edit d p (λ k. k) write) (at_end p (λ k. k)) e.name e.time e.node) t
  others (suc d) (b ∷ p) (a ∷ q) x t =
      lookup_kept b a (renewed (edit d p (λ k. k) write) (at_end p (λ k. k))) (renewed_name _ _) (λ e. inside (file_at d q m) e.node)
      (λ e k. renew_inside (file_at d q m) (edit d p (λ k. k) write) (λ y. others d p q (λ r. x (λ i. k i ∷ r i)) y) (at_end p (λ k. k)) e.name e.time e.node) t

-- A write to the file n of directory p leaves the file m of directory q: size, time, blocks and bytes.
pub other_file : (d : ℕ) (p q : List Name) (n m : Name) (now s : ℕ) (cs : List Cell) (t : Tree d) → (p ≡ q → n ≡ m → ⊥) → file_at d q m (rewritten d p n now s cs t) ≡ file_at d q m t
unfolding rewritten write
other_file d p q n m now s cs t x = others n m now s cs d p q x t
