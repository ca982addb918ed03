-- The laws of an edit at a path.
use mathlib.Core.Path.{◌≡◌, refl, sym, ap, ◌∙◌, subst}
use mathlib.Core.Option.{Option, none, some}
use mathlib.Core.List.{List, [], ◌∷◌}
use Prim.Native.Nat.{ℕ, zero, suc}
use Rattle.model.specs.Tree.{Cell, Name, Node, file, device, sub, Entry, Tree, then, lookup, Edit, renew, renewed, at_end, edit, Some, inside, find}
use Rattle.model.specs.Calls.{refiled}
use Rattle.model.proofs.Dirs.{Keeps, change_twice, change_ext, change_same, lookup-change}
use Rattle.model.proofs.Lists.{not_some, then_some}

module _ {X : Type 0} where
  renew_name : (f : X → X) (g : ℕ → ℕ) (n : Name) (k : ℕ) (x : Node X) → (renew f g n k x).name ≡ n
  unfolding renew
  renew_name f g n k (file s c) = refl
  renew_name f g n k (device s c) = refl
  renew_name f g n k (sub x) = refl

  pub renewed_name : (f : X → X) (g : ℕ → ℕ) → Keeps (renewed f g)
  unfolding renewed
  renewed_name f g e = renew_name f g e.name e.time e.node

  -- twice is once, where the parts say so
  module _ (f f' f'' : X → X) (g g' g'' : ℕ → ℕ) (p : (x : X) → f (f' x) ≡ f'' x) (q : (k : ℕ) → g (g' k) ≡ g'' k) where
    renew_twice : (n : Name) (k : ℕ) (x : Node X) → renewed f g (renew f' g' n k x) ≡ renew f'' g'' n k x
    unfolding renew renewed
    renew_twice n k (file s c) = refl
    renew_twice n k (device s c) = refl
    renew_twice n k (sub x) = λ i. record { name = n; time = q k i; node = sub (p x i) }

    renewed_twice : (e : Entry X) → renewed f g (renewed f' g' e) ≡ renewed f'' g'' e
    unfolding renewed
    renewed_twice e = unfold renewed in renew_twice e.name e.time e.node

-- The time of the end of the path, twice.
at_end_twice : (p : List Name) (g g' : ℕ → ℕ) (k : ℕ) → at_end p g (at_end p g' k) ≡ at_end p (λ j. g (g' j)) k
unfolding at_end
at_end_twice [] g g' k = refl
at_end_twice (n ∷ p) g g' k = refl

-- Two edits at one path are one.
pub edit_twice : (d : ℕ) (p : List Name) (g g' : ℕ → ℕ) (f f' : Edit) (t : Tree d)
    → edit d p g f (edit d p g' f' t) ≡ edit d p (λ k. g (g' k)) (λ e s. f e (f' e s)) t
unfolding edit
edit_twice zero [] g g' f f' t = refl
edit_twice (suc d) [] g g' f f' t = refl
edit_twice zero (n ∷ p) g g' f f' t = refl
edit_twice (suc d) (n ∷ p) g g' f f' t =
    change_twice n (renewed (edit d p g f) (at_end p g)) (renewed (edit d p g' f') (at_end p g')) (renewed_name _ _) t
    ∙ change_ext n _ (renewed (edit d p (λ k. g (g' k)) (λ e s. f e (f' e s))) (at_end p (λ k. g (g' k)))) t
    (λ e _. renewed_twice (edit d p g f) (edit d p g' f') _ (at_end p g) (at_end p g') _ (λ s. edit_twice d p g g' f f' s) (at_end_twice p g g') e)

-- What a find gives.
none_here : {A : Type 0} {x : A} → none ≡ some x → ⊥
none_here e = not_some refl e

pub find-sub : (d : ℕ) (n : Name) (p : List Name) (t : Tree (suc d)) (s : Some) (e : Entry (Tree d))
    → lookup n t ≡ some e → find (suc d) (n ∷ p) t ≡ some s → inside (find d p) e.node ≡ some s
unfolding find
find-sub d n p t s e l f = sym (then_some (λ x. inside (find d p) x.node) l) ∙ f

-- Only what is done to the directory at the path counts.
module _ (d : ℕ) (f f' : Tree d → Tree d) (g : ℕ → ℕ) (o : Tree d → Option Some) (s : Some) (h : (t : Tree d) → o t ≡ some s → f t ≡ f' t) where
  renew_ext : (n : Name) (k : ℕ) (x : Node (Tree d)) → inside o x ≡ some s → renew f g n k x ≡ renew f' g n k x
  unfolding renew inside
  renew_ext n k (file z c) i = refl
  renew_ext n k (device z c) i = refl
  renew_ext n k (sub x) i = ap (λ (y : Tree d). let r : Entry (Tree d) = record { name = n; time = g k; node = sub y } in r) (h x i)

pub edit_ext : (d : ℕ) (p : List Name) (g : ℕ → ℕ) (f f' : Edit) (t : Tree d) (s : Some)
    → find d p t ≡ some s → f s.0 s.1 ≡ f' s.0 s.1 → edit d p g f t ≡ edit d p g f' t
unfolding edit find renewed
edit_ext zero [] g f f' t s e h = let k : (zero, t) ≡ s = cc in subst (λ (x : Some). f x.0 x.1 ≡ f' x.0 x.1) (sym k) h
edit_ext (suc d) [] g f f' t s e h = let k : (suc d, t) ≡ s = cc in subst (λ (x : Some). f x.0 x.1 ≡ f' x.0 x.1) (sym k) h
edit_ext zero (n ∷ p) g f f' t s e h = refl
edit_ext (suc d) (n ∷ p) g f f' t s e h =
    change_ext n (renewed (edit d p g f) (at_end p g)) (renewed (edit d p g f') (at_end p g)) t
    (λ x l. renew_ext d (edit d p g f) (edit d p g f') (at_end p g) (find d p) s (λ y i. edit_ext d p g f f' y s i h) x.name x.time x.node (find-sub d n p t s x l e))

-- The directory at the path is the one edited.
module _ (d : ℕ) (f : Tree d → Tree d) (g : ℕ → ℕ) (o : Tree d → Option Some) (s s' : Some) (h : (t : Tree d) → o t ≡ some s → o (f t) ≡ some s') where
  renew-find : (n : Name) (k : ℕ) (x : Node (Tree d)) → inside o x ≡ some s → inside o (renew f g n k x).node ≡ some s'
  unfolding renew inside
  renew-find n k (file z c) i = absurd (none_here i)
  renew-find n k (device z c) i = absurd (none_here i)
  renew-find n k (sub x) i = h x i

pub find-edit : (d : ℕ) (p : List Name) (g : ℕ → ℕ) (f : Edit) (t : Tree d) (s : Some)
    → find d p t ≡ some s → find d p (edit d p g f t) ≡ some (s.0, f s.0 s.1)
unfolding edit find renewed then
find-edit zero [] g f t s e = let k : (zero, t) ≡ s = cc in ap (λ (x : Some). let r : Some = (x.0, f x.0 x.1) in some r) k
find-edit (suc d) [] g f t s e = let k : (suc d, t) ≡ s = cc in ap (λ (x : Some). let r : Some = (x.0, f x.0 x.1) in some r) k
find-edit zero (n ∷ p) g f t s e = absurd (none_here e)
find-edit (suc d) (n ∷ p) g f t s e = go (lookup n t) refl
    (λ x i. renew-find d (edit d p g f) (at_end p g) (find d p) s (s.0, f s.0 s.1) (λ y j. find-edit d p g f y s j) x.name x.time x.node i)
  where
    go : (o : Option (Entry (Tree d))) → lookup n t ≡ o
        → ((x : Entry (Tree d)) → inside (find d p) x.node ≡ some s → inside (find d p) (renewed (edit d p g f) (at_end p g) x).node ≡ some (s.0, f s.0 s.1))
        → find (suc d) (n ∷ p) (edit (suc d) (n ∷ p) g f t) ≡ some (s.0, f s.0 s.1)
    go none l r = absurd (not_some (ap (λ (o : Option (Entry (Tree d))). then o (λ x. inside (find d p) x.node)) l) e)
    go (some x) l r =
        then_some (λ y. inside (find d p) y.node) (lookup-change n (renewed (edit d p g f) (at_end p g)) (renewed_name _ _) t x l)
        ∙ r x (find-sub d n p t s x l e)

-- An edit that does nothing.
renew_same : (d : ℕ) (f : Tree d → Tree d) (g : ℕ → ℕ) → ((t : Tree d) → f t ≡ t) → ((k : ℕ) → g k ≡ k) → (n : Name) (k : ℕ) (x : Node (Tree d))
    → renew f g n k x ≡ record { name = n; time = k; node = x }
unfolding renew
renew_same d f g p q n k (file s c) = refl
renew_same d f g p q n k (device s c) = refl
renew_same d f g p q n k (sub x) = λ i. record { name = n; time = q k i; node = sub (p x i) }

pub edit_same : (d : ℕ) (p : List Name) (t : Tree d) → edit d p (λ k. k) (λ e s. s) t ≡ t
unfolding edit renewed at_end
edit_same zero [] t = refl
edit_same (suc d) [] t = refl
edit_same zero (n ∷ p) t = refl
edit_same (suc d) (n ∷ p) t =
    change_same n (renewed (edit d p (λ k. k) (λ e s. s)) (at_end p (λ k. k))) t
    (λ e _. renew_same d (edit d p (λ k. k) (λ e s. s)) (at_end p (λ k. k)) (λ s. edit_same d p s) (at_same p) e.name e.time e.node)
  where
    at_same : (p : List Name) (k : ℕ) → at_end p (λ j. j) k ≡ k
    at_same [] k = refl
    at_same (m ∷ p) k = refl

-- A write keeps the name.
pub refiled_name : {X : Type 0} (now s : ℕ) (cs : List Cell) (n : Name) (k : ℕ) (x : Node X) → (refiled now s cs n k x).name ≡ n
unfolding refiled
refiled_name now s cs n k (file z ds) = refl
refiled_name now s cs n k (device z ds) = refl
refiled_name now s cs n k (sub x) = refl
