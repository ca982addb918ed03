-- The directory with a given first address stands at one path at most: so a handle, which holds an address, is at one path.
use mathlib.Core.Path.{◌≡◌, refl, sym, ap, ◌∙◌, subst}
use mathlib.Core.Bool.{true, false}
use mathlib.Core.Logic.{◌⊎◌, inl, inr}
use mathlib.Core.Option.{some}
use mathlib.Core.List.{List, [], ◌∷◌}
use Prim.Native.Nat.{ℕ, zero, suc, ◌+◌, ◌≤◌}
use native.Mathlib.Omega.{arith}
use Rattle.wire.proofs.Picks.{either, same_eq}
use Rattle.model.specs.Tree.{Name, Node, sub, Entry, Block, Tree, first, then, called, holds, lookup, inside, Some, find, Packed}
use Rattle.model.specs.Render.{View, blocks_at, node_pieces, entry_pieces, dir_pieces, view, render, count}
use Rattle.model.specs.Geometry.{Geo, block_size}
use Rattle.model.specs.Volume.{Laid}
use Rattle.model.proofs.Counts.{tally, dir_tally, entries_tally, count_same}
use Rattle.model.proofs.Cuts.{found, sub_of_lem}
use Rattle.model.proofs.Full.{good_find}
use Rattle.model.proofs.Lists.{not_some, first_here, first_there}
use Rattle.model.proofs.Others.{name_or, lookup_here, lookup_there}

module _ {X : Type 0} (B : ℕ) (v : View X) (i : ℕ) where
  -- one entry
  one_entry : (a : Name) (es : List (Entry X)) (e : Entry X) → first (called a) es ≡ some e → tally i (node_pieces v e.node) ≤ tally i (entry_pieces v es)
  unfolding first
  one_entry a [] e f = absurd (not_some refl f)
  one_entry a (x ∷ es) e f = go (either (called a x)) (one_entry a es e)
    where
      go : (called a x ≡ true) ⊎ (called a x ≡ false) → (first (called a) es ≡ some e → tally i (node_pieces v e.node) ≤ tally i (entry_pieces v es)) → tally i (node_pieces v e.node) ≤ tally i (entry_pieces v (x ∷ es))
      go (inl c) r =
          let both : some x ≡ some e = sym (first_here (called a) x es c) ∙ f in
          let k : x ≡ e = cc in
          omega (arith, entries_tally B v i x es, ap (λ (z : Entry X). tally i (node_pieces v z.node)) k)
      go (inr c) r = omega (arith, entries_tally B v i x es, r (sym (first_there (called a) x es c) ∙ f))

  one_in : (a : Name) (bs : List (Block X)) (e : Entry X) → lookup a bs ≡ some e → tally i (node_pieces v e.node) + count i (blocks_at bs ∷ []) ≤ tally i (dir_pieces B v bs)
  unfolding lookup first then blocks_at
  one_in a [] e l = absurd (not_some refl l)
  one_in a (b ∷ bs) e l = go (either (holds a b)) (one_in a bs e)
    where
      go : (holds a b ≡ true) ⊎ (holds a b ≡ false) → (lookup a bs ≡ some e → tally i (node_pieces v e.node) + count i (blocks_at bs ∷ []) ≤ tally i (dir_pieces B v bs))
          → tally i (node_pieces v e.node) + count i (b.at ∷ []) ≤ tally i (dir_pieces B v (b ∷ bs))
      go (inl c) r = omega (arith, dir_tally B v i b bs, one_entry a b.entries e (sym (lookup_here a b bs c) ∙ l))
      go (inr c) r = omega (arith, dir_tally B v i b bs, r (sym (lookup_there a b bs c) ∙ l))

  -- two entries
  two_entries : (a c : Name) → (a ≡ c → ⊥) → (es : List (Entry X)) (e f : Entry X) → first (called a) es ≡ some e → first (called c) es ≡ some f
      → tally i (node_pieces v e.node) + tally i (node_pieces v f.node) ≤ tally i (entry_pieces v es)
  unfolding first
  two_entries a c d [] e f p q = absurd (not_some refl p)
  two_entries a c d (x ∷ es) e f p q = go (either (called a x)) (either (called c x)) (two_entries a c d es e f)
    where
      is : (n : Name) (y : Entry X) → first (called n) (x ∷ es) ≡ some y → called n x ≡ true → tally i (node_pieces v x.node) ≡ tally i (node_pieces v y.node)
      is n y r k =
          let both : some x ≡ some y = sym (first_here (called n) x es k) ∙ r in
          let z : x ≡ y = cc in
          ap (λ (u : Entry X). tally i (node_pieces v u.node)) z

      go : (called a x ≡ true) ⊎ (called a x ≡ false) → (called c x ≡ true) ⊎ (called c x ≡ false)
          → (first (called a) es ≡ some e → first (called c) es ≡ some f → tally i (node_pieces v e.node) + tally i (node_pieces v f.node) ≤ tally i (entry_pieces v es))
          → tally i (node_pieces v e.node) + tally i (node_pieces v f.node) ≤ tally i (entry_pieces v (x ∷ es))
      go (inl k) (inl m) r = absurd (d (unfold called in same_eq a x.name k ∙ sym (same_eq c x.name m)))
      go (inl k) (inr m) r = omega (arith, entries_tally B v i x es, is a e p k, one_entry c es f (sym (first_there (called c) x es m) ∙ q))
      go (inr k) (inl m) r = omega (arith, entries_tally B v i x es, is c f q m, one_entry a es e (sym (first_there (called a) x es k) ∙ p))
      go (inr k) (inr m) r = omega (arith, entries_tally B v i x es, r (sym (first_there (called a) x es k) ∙ p) (sym (first_there (called c) x es m) ∙ q))

  two_in : (a c : Name) → (a ≡ c → ⊥) → (bs : List (Block X)) (e f : Entry X) → lookup a bs ≡ some e → lookup c bs ≡ some f
      → tally i (node_pieces v e.node) + tally i (node_pieces v f.node) ≤ tally i (dir_pieces B v bs)
  unfolding lookup first then
  two_in a c d [] e f p q = absurd (not_some refl p)
  two_in a c d (b ∷ bs) e f p q = go (either (holds a b)) (either (holds c b)) (two_in a c d bs e f)
    where
      go : (holds a b ≡ true) ⊎ (holds a b ≡ false) → (holds c b ≡ true) ⊎ (holds c b ≡ false)
          → (lookup a bs ≡ some e → lookup c bs ≡ some f → tally i (node_pieces v e.node) + tally i (node_pieces v f.node) ≤ tally i (dir_pieces B v bs))
          → tally i (node_pieces v e.node) + tally i (node_pieces v f.node) ≤ tally i (dir_pieces B v (b ∷ bs))
      go (inl k) (inl m) r = omega (arith, dir_tally B v i b bs, two_entries a c d b.entries e f (sym (lookup_here a b bs k) ∙ p) (sym (lookup_here c b bs m) ∙ q))
      go (inl k) (inr m) r = omega (arith, dir_tally B v i b bs, one_entry a b.entries e (sym (lookup_here a b bs k) ∙ p), one_in c bs f (sym (lookup_there c b bs m) ∙ q))
      go (inr k) (inl m) r = omega (arith, dir_tally B v i b bs, one_entry c b.entries f (sym (lookup_here c b bs m) ∙ q), one_in a bs e (sym (lookup_there a b bs k) ∙ p))
      go (inr k) (inr m) r = omega (arith, dir_tally B v i b bs, r (sym (lookup_there a b bs k) ∙ p) (sym (lookup_there c b bs m) ∙ q))

-- a directory's blocks are among those of every directory above it
sub_tally : (B d i : ℕ) (x : Tree d) → tally i (node_pieces (view B (suc d)) (sub x)) ≡ tally i (render B d x)
unfolding node_pieces view render
sub_tally B d i x = refl

module _ (B i d : ℕ) (t : Tree (suc d)) where
  entry_in_lem : (n : Name) (e : Entry (Tree d)) (x : Tree d) → lookup n t ≡ some e → e.node ≡ sub x → tally i (render B d x) + count i (blocks_at t ∷ []) ≤ tally i (render B (suc d) t)
  unfolding render
  entry_in_lem n e x l k =
      let a : tally i (node_pieces (view B (suc d)) e.node) ≡ tally i (node_pieces (view B (suc d)) (sub x)) = ap (λ (w : Node (Tree d)). tally i (node_pieces (view B (suc d)) w)) k in
      omega (arith, one_in B (view B (suc d)) i n t e l, sub_tally B d i x, a)

  entries_in : (n m : Name) → (n ≡ m → ⊥) → (e f : Entry (Tree d)) (x y : Tree d) → lookup n t ≡ some e → lookup m t ≡ some f → e.node ≡ sub x → f.node ≡ sub y
      → tally i (render B d x) + tally i (render B d y) ≤ tally i (render B (suc d) t)
  unfolding render
  entries_in n m z e f x y l l' k k' =
      let a : tally i (node_pieces (view B (suc d)) e.node) ≡ tally i (node_pieces (view B (suc d)) (sub x)) = ap (λ (w : Node (Tree d)). tally i (node_pieces (view B (suc d)) w)) k in
      let b : tally i (node_pieces (view B (suc d)) f.node) ≡ tally i (node_pieces (view B (suc d)) (sub y)) = ap (λ (w : Node (Tree d)). tally i (node_pieces (view B (suc d)) w)) k' in
      omega (arith, two_in B (view B (suc d)) i n m z t e f l l', sub_tally B d i x, sub_tally B d i y, a, b)

pub sub_in : (B i d : ℕ) (p : List Name) (t : Tree d) (s : Some) → find d p t ≡ some s → tally i (render B s.0 s.1) ≤ tally i (render B d t)
unfolding find
sub_in B i zero [] t s f = let k : (zero, t) ≡ s = cc in subst (λ (z : Some). tally i (render B z.0 z.1) ≤ tally i (render B zero t)) k (omega arith)
sub_in B i (suc d) [] t s f = let k : (suc d, t) ≡ s = cc in subst (λ (z : Some). tally i (render B z.0 z.1) ≤ tally i (render B (suc d) t)) k (omega arith)
sub_in B i zero (n ∷ p) t s f = absurd (not_some refl f)
sub_in B i (suc d) (n ∷ p) t s f =
    let z = found d n p t s f in
    let y = sub_of_lem d (find d p) s z.0.node z.2 in
    omega (arith, sub_in B i d p y.0 s y.2, entry_in_lem B i d t n z.0 y.0 z.1 y.1)

-- a directory's first block is one of its blocks
first_in : (B d : ℕ) (t : Tree d) → Packed t → 1 ≤ tally (blocks_at t) (render B d t)
unfolding render blocks_at
first_in B d [] k = absurd k
first_in B d (b ∷ bs) k = omega (arith, dir_tally B (view B d) b.at b bs, count_same b.at b.at [] refl)

first_below : (B d i : ℕ) (p : List Name) (t : Tree d) (s : Some) → find d p t ≡ some s → Packed s.1 → i ≡ blocks_at s.1 → 1 ≤ tally i (render B d t)
first_below B d i p t s f k e =
    let a : 1 ≤ tally i (render B s.0 s.1) = subst (λ (j : ℕ). 1 ≤ tally j (render B s.0 s.1)) (sym e) (first_in B s.0 s.1 k) in
    omega (arith, a, sub_in B i d p t s f)

-- the directory at a path below is not the directory itself
not_above : (B d : ℕ) (n : Name) (p : List Name) (t : Tree (suc d)) (s : Some) → ((i : ℕ) → tally i (render B (suc d) t) ≤ 1) → find (suc d) (n ∷ p) t ≡ some s → Packed s.1
    → blocks_at s.1 ≡ blocks_at t → ⊥
not_above B d n p t s o f k e =
    let z = found d n p t s f in
    let y = sub_of_lem d (find d p) s z.0.node z.2 in
    omega (arith, first_below B d (blocks_at t) p y.0 s y.2 k (sym e), entry_in_lem B (blocks_at t) d t n z.0 y.0 z.1 y.1, o (blocks_at t), count_same (blocks_at t) (blocks_at t) [] refl)

-- One path for an address.
path_one : (B d : ℕ) (p q : List Name) (t : Tree d) (s r : Some) → ((i : ℕ) → tally i (render B d t) ≤ 1) → find d p t ≡ some s → find d q t ≡ some r
    → Packed s.1 → Packed r.1 → blocks_at s.1 ≡ blocks_at r.1 → p ≡ q
unfolding find
path_one B zero [] [] t s r o f h ks kr e = refl
path_one B (suc d) [] [] t s r o f h ks kr e = refl
path_one B zero [] (b ∷ q) t s r o f h ks kr e = absurd (not_some refl h)
path_one B (suc d) [] (b ∷ q) t s r o f h ks kr e =
    let k : (suc d, t) ≡ s = cc in absurd (not_above B d b q t r o h kr (sym e ∙ ap (λ (z : Some). blocks_at z.1) (sym k)))
path_one B zero (a ∷ p) q t s r o f h ks kr e = absurd (not_some refl f)
path_one B (suc d) (a ∷ p) [] t s r o f h ks kr e =
    let k : (suc d, t) ≡ r = cc in absurd (not_above B d a p t s o f ks (e ∙ ap (λ (z : Some). blocks_at z.1) (sym k)))
path_one B (suc d) (a ∷ p) (b ∷ q) t s r o f h ks kr e =
    go (name_or a b) (λ x g g' o'. path_one B d p q x s r o' g g' ks kr e)
  where
    z : (x : Entry (Tree d)) × (lookup a t ≡ some x) × (inside (find d p) x.node ≡ some s)
    z = found d a p t s f

    w : (x : Entry (Tree d)) × (lookup b t ≡ some x) × (inside (find d q) x.node ≡ some r)
    w = found d b q t r h

    y : (x : Tree d) × (z.0.node ≡ sub x) × (find d p x ≡ some s)
    y = sub_of_lem d (find d p) s z.0.node z.2

    u : (x : Tree d) × (w.0.node ≡ sub x) × (find d q x ≡ some r)
    u = sub_of_lem d (find d q) r w.0.node w.2

    go : (a ≡ b) ⊎ (a ≡ b → ⊥) → ((x : Tree d) → find d p x ≡ some s → find d q x ≡ some r → ((i : ℕ) → tally i (render B d x) ≤ 1) → p ≡ q) → a ∷ p ≡ b ∷ q
    go (inl k) i =
        let l : lookup a t ≡ some w.0 = ap (λ (n : Name). lookup n t) k ∙ w.1 in
        let both : some z.0 ≡ some w.0 = sym z.1 ∙ l in
        let same : z.0 ≡ w.0 = cc in
        let subs : sub y.0 ≡ sub u.0 = sym y.1 ∙ ap (λ (x : Entry (Tree d)). x.node) same ∙ u.1 in
        let x : y.0 ≡ u.0 = cc in
        let m = i y.0 y.2 (subst (λ (v : Tree d). find d q v ≡ some r) (sym x) u.2) (λ j. omega (arith, o j, entry_in_lem B j d t a z.0 y.0 z.1 y.1)) in
        λ j. k j ∷ m j
    go (inr k) i =
        absurd (omega (
          arith,
          o (blocks_at s.1),
          entries_in B (blocks_at s.1) d t a b k z.0 w.0 y.0 u.0 z.1 w.1 y.1 u.1,
          first_below B d (blocks_at s.1) p y.0 s y.2 ks refl,
          first_below B d (blocks_at s.1) q u.0 r u.2 kr e,
        ))

-- An address that a handle holds, in an image that lays out a tree.
pub laid_path : (g : Geo) (I : List ℕ) (d : ℕ) (t : Tree d) (u : ℕ) (p q : List Name) (s r : Some) → Laid g I d t u → find d p t ≡ some s → find d q t ≡ some r
    → blocks_at s.1 ≡ blocks_at r.1 → p ≡ q
laid_path g I d t u p q s r l f h e =
    path_one (block_size g) d p q t s r (λ i. unfold tally in l.once i) f h
    (good_find (block_size g) d p t s l.good f).packed (good_find (block_size g) d q t r l.good h).packed e
