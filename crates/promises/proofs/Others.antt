-- A call at one path leaves the file or the device at every other path as it was.
use mathlib.Core.Path.{◌≡◌, refl, sym, ap, ◌∙◌, subst}
use mathlib.Core.Logic.{◌⊎◌, inl, inr}
use mathlib.Core.Option.{Option, none, some}
use mathlib.Core.List.{List, [], ◌∷◌, ◌++◌}
use Prim.Native.Nat.{ℕ, zero, suc}
use Rattle.model.specs.Tree.{Name, Node, file, device, sub, Entry, Block, Below, Tree, first, then, lookup, entries_of, called, change, Edit, renew, renewed, at_end, edit, inside, Some, find, NoEntries, Bare}
use Rattle.model.specs.Calls.{Occupied}
use Rattle.model.proofs.Dirs.{Keeps, lookup-change, change_same}
use Rattle.model.proofs.Edits.{renewed_name}
use Rattle.model.proofs.Lists.{not_some, then_some}
use Rattle.model.proofs.Others.{lookup_other, name_or}
use Rattle.model.proofs.Reached.{lookup_entries}

-- What is read of the entry a, where h keeps what is read of the entry n.
pub lookup_kept : {X R : Type 0} (n a : Name) (h : Entry X → Entry X) → Keeps h → (o : Entry X → Option R) (bs : List (Block X))
    → ((e : Entry X) → lookup n bs ≡ some e → n ≡ a → o (h e) ≡ o e) → then (lookup a (change n h bs)) o ≡ then (lookup a bs) o
unfolding then
lookup_kept {X} n a h k o bs s = go (name_or n a) (lookup n bs) refl
  where
    go : (n ≡ a) ⊎ (n ≡ a → ⊥) → (r : Option (Entry X)) → lookup n bs ≡ r → then (lookup a (change n h bs)) o ≡ then (lookup a bs) o
    go (inr d) r l = ap (λ (z : Option (Entry X)). then z o) (lookup_other n a d h k bs)
    go (inl e) (some x) l =
        subst (λ (z : Name). then (lookup z (change n h bs)) o ≡ then (lookup z bs) o) e
        (then_some o (lookup-change n h k bs x l) ∙ s x l e ∙ sym (then_some o l))
    go (inl e) none l =
        subst (λ (z : Name). then (lookup z (change n h bs)) o ≡ then (lookup z bs) o) e
        (ap (λ (z : List (Block X)). then (lookup n z) o) (change_same n h bs (λ x f. absurd (not_some l f))))

-- What is read of a directory's entry, where f keeps what is read of that directory.
pub renew_inside : {X R : Type 0} (o : X → Option R) (f : X → X) (g : ℕ → ℕ) (n : Name) (k : ℕ) (x : Node X)
    → ((y : X) → x ≡ sub y → o (f y) ≡ o y) → inside o (renew f g n k x).node ≡ inside o x
unfolding renew inside
renew_inside o f g n k (file z cs) s = refl
renew_inside o f g n k (device z cs) s = refl
renew_inside o f g n k (sub y) s = s y refl

-- a directory with no entry gives nothing by any name
no_entries : {X : Type 0} (bs : List (Block X)) → NoEntries bs → entries_of bs ≡ []
unfolding entries_of
no_entries [] h = refl
no_entries (b ∷ bs) h = ap (λ (l : List (Entry _)). l ++ entries_of bs) h.0 ∙ no_entries bs h.1

nothing_in : {X : Type 0} (n : Name) (bs : List (Block X)) → NoEntries bs → lookup n bs ≡ none
unfolding first
nothing_in n bs h = lookup_entries n bs ∙ ap (first (called n)) (no_entries bs h)

-- The name n gives no directory that has entries.
abbrev pub Hollow : (d : ℕ) → Name → Tree d → Type 0
Hollow d n t = (e : Entry (Below d)) → lookup n t ≡ some e → Bare d e.node

-- What r reads of time and node of the entry m, in a directory and at a path.
module _ {R : Type 0} (r : (X : Type 0) → ℕ → Node X → Option R) (m : Name) where
  abbrev pub read_in : (d : ℕ) → Tree d → Option R
  read_in d t = then (lookup m t) (λ e. r (Below d) e.time e.node)

  abbrev pub read_at : (d : ℕ) → List Name → Tree d → Option R
  read_at d q t = then (find d q t) (λ s. read_in s.0 s.1)

  read_nil : (d : ℕ) (t : Tree d) → read_at d [] t ≡ read_in d t
  unfolding find then
  read_nil zero t = refl
  read_nil (suc d) t = refl

  read_cons : (d : ℕ) (a : Name) (q : List Name) (t : Tree (suc d)) → read_at (suc d) (a ∷ q) t ≡ then (lookup a t) (λ e. inside (read_at d q) e.node)
  unfolding find then inside
  read_cons d a q t = go (lookup a t)
    where
      into : (x : Node (Tree d)) → then (inside (find d q) x) (λ s. read_in s.0 s.1) ≡ inside (read_at d q) x
      into (file z cs) = refl
      into (device z cs) = refl
      into (sub y) = refl

      go : (x : Option (Entry (Tree d))) → then (then x (λ e. inside (find d q) e.node)) (λ s. read_in s.0 s.1) ≡ then x (λ e. inside (read_at d q) e.node)
      go none = refl
      go (some e) = into e.node

  -- Where it reads something, there is an entry.
  pub read_there : (d : ℕ) (q : List Name) (t : Tree d) (x : R) → read_at d q t ≡ some x
      → (o : Occupied d q m t) × (r (Below o.dir.0) o.entry.time o.entry.node ≡ some x)
  unfolding then
  read_there d q t x h = at_dir (find d q t) refl h
    where
      at_entry : (s : Some) → find d q t ≡ some s → (y : Option (Entry (Below s.0))) → lookup m s.1 ≡ y → then y (λ e. r (Below s.0) e.time e.node) ≡ some x
          → (o : Occupied d q m t) × (r (Below o.dir.0) o.entry.time o.entry.node ≡ some x)
      at_entry s f none l h = absurd (not_some refl h)
      at_entry s f (some e) l h = (record { dir = s; there = f; entry = e; held = l }, h)

      at_dir : (y : Option Some) → find d q t ≡ y → then y (λ s. read_in s.0 s.1) ≡ some x
          → (o : Occupied d q m t) × (r (Below o.dir.0) o.entry.time o.entry.node ≡ some x)
      at_dir none f h = absurd (not_some refl h)
      at_dir (some s) f h = at_entry s f (lookup m s.1) refl h

  -- ---- in the directory that a call changes

  empty_read : (d : ℕ) (q : List Name) (t : Tree d) → NoEntries t → read_at d q t ≡ none
  unfolding find then
  empty_read zero [] t h = ap (λ (o : Option (Entry (Below zero))). then o (λ e. r (Below zero) e.time e.node)) (nothing_in m t h)
  empty_read (suc d) [] t h = ap (λ (o : Option (Entry (Tree d))). then o (λ e. r (Tree d) e.time e.node)) (nothing_in m t h)
  empty_read zero (a ∷ q) t h = refl
  empty_read (suc d) (a ∷ q) t h = read_cons d a q t ∙ ap (λ (o : Option (Entry (Tree d))). then o (λ e. inside (read_at d q) e.node)) (nothing_in a t h)

  bare_read : (d : ℕ) (q : List Name) (x : Node (Tree d)) → Bare (suc d) x → inside (read_at d q) x ≡ none
  unfolding inside
  bare_read d q (file z cs) b = refl
  bare_read d q (device z cs) b = refl
  bare_read d q (sub y) b = empty_read d q y b

  hollow_read : (d : ℕ) (n : Name) (q : List Name) (t : Tree (suc d)) → Hollow (suc d) n t → read_at (suc d) (n ∷ q) t ≡ none
  hollow_read d n q t h = read_cons d n q t ∙ go (lookup n t) refl
    where
      go : (o : Option (Entry (Tree d))) → lookup n t ≡ o → then o (λ e. inside (read_at d q) e.node) ≡ none
      go none l = unfold then in refl
      go (some e) l = unfold then in bare_read d q e.node (h e l)

  -- Two directories in which only the entry n differs, and is no directory that has entries, give the same at every other path.
  pub read_other : (d : ℕ) (n : Name) (t u : Tree d) → ((a : Name) → (n ≡ a → ⊥) → lookup a u ≡ lookup a t) → Hollow d n t → Hollow d n u
      → (q : List Name) → (q ≡ [] → n ≡ m → ⊥) → read_at d q u ≡ read_at d q t
  unfolding find
  read_other d n t u s h k [] x =
      read_nil d u ∙ ap (λ (o : Option (Entry (Below d))). then o (λ e. r (Below d) e.time e.node)) (s m (x refl)) ∙ sym (read_nil d t)
  read_other zero n t u s h k (a ∷ q) x = refl
  read_other (suc d) n t u s h k (a ∷ q) x = go (name_or n a)
    where
      go : (n ≡ a) ⊎ (n ≡ a → ⊥) → read_at (suc d) (a ∷ q) u ≡ read_at (suc d) (a ∷ q) t
      go (inl e) = subst (λ (z : Name). read_at (suc d) (z ∷ q) u ≡ read_at (suc d) (z ∷ q) t) e (hollow_read d n q u k ∙ sym (hollow_read d n q t h))
      go (inr e) = read_cons d a q u ∙ ap (λ (o : Option (Entry (Tree d))). then o (λ y. inside (read_at d q) y.node)) (s a e) ∙ sym (read_cons d a q t)

  -- ---- and in the whole tree, where r gives nothing of a directory

  renew_read : ((X : Type 0) (k : ℕ) (x : X) → r X k (sub x) ≡ none) → (X : Type 0) (f : X → X) (g : ℕ → ℕ) (n : Name) (k : ℕ) (x : Node X) → r X (renew f g n k x).time (renew f g n k x).node ≡ r X k x
  unfolding renew
  renew_read leaf X f g n k (file z cs) = refl
  renew_read leaf X f g n k (device z cs) = refl
  renew_read leaf X f g n k (sub x) = leaf X (g k) (f x) ∙ sym (leaf X k x)

  -- An edit of the directory at p changes nothing at q, if it changes nothing there by the names that follow p in q.
  pub read_edit : ((X : Type 0) (k : ℕ) (x : X) → r X k (sub x) ≡ none) → (d : ℕ) (p q : List Name) (g : ℕ → ℕ) (f : Edit) (t : Tree d)
      → ((s : Some) (u : List Name) → find d p t ≡ some s → q ≡ p ++ u → read_at s.0 u (f s.0 s.1) ≡ read_at s.0 u s.1)
      → read_at d q (edit d p g f t) ≡ read_at d q t
  unfolding edit find renewed inside
  read_edit leaf zero [] q g f t h = h (zero, t) q refl refl
  read_edit leaf (suc d) [] q g f t h = h (suc d, t) q refl refl
  read_edit leaf zero (b ∷ p) q g f t h = refl
  read_edit leaf (suc d) (b ∷ p) [] g f t h =
      read_nil (suc d) _
      ∙ lookup_kept b m (renewed (edit d p g f) (at_end p g)) (renewed_name _ _) (λ e. r (Tree d) e.time e.node) t
      (λ e l k. renew_read leaf (Tree d) (edit d p g f) (at_end p g) e.name e.time e.node)
      ∙ sym (read_nil (suc d) t)
  read_edit leaf (suc d) (b ∷ p) (a ∷ q) g f t h =
      read_cons d a q _
      ∙ lookup_kept b a (renewed (edit d p g f) (at_end p g)) (renewed_name _ _) (λ e. inside (read_at d q) e.node) t
      (λ e l k. renew_inside (read_at d q) (edit d p g f) (at_end p g) e.name e.time e.node
      (λ y i. read_edit leaf d p q g f y
      (λ s u c j. h s u (then_some (λ x. inside (find d p) x.node) l ∙ ap (inside (find d p)) i ∙ c) (λ z. sym k z ∷ j z))))
      ∙ sym (read_cons d a q t)
