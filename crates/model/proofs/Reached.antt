-- A handle knows an address and an edit a path: the path to an address is found exactly where a directory starts there, and it leads there.
use mathlib.Core.Path.{◌≡◌, refl, sym, ap, ◌∙◌, subst}
use mathlib.Core.Bool.{true, false}
use mathlib.Core.Logic.{◌⊎◌, inl, inr}
use mathlib.Core.Option.{Option, none, some}
use mathlib.Core.List.{List, [], ◌∷◌, ◌++◌}
use Prim.Native.Nat.{ℕ, zero, suc, ◌+◌, ◌≤◌}
use native.Mathlib.Omega.{arith}
use lib.Dec.{eqb}
use borrow.Author.Tests.{eqb-true, eq-eqb}
use Rattle.wire.proofs.Picks.{either, not_both, pick_true, pick_false, same_refl}
use Rattle.model.specs.Tree.{Name, Node, file, device, sub, Entry, Block, Tree, any, first, then, or_else, entries_of, called, holds, lookup, inside, Some, find}
use Rattle.model.specs.Render.{blocks_at}
use Rattle.model.specs.Geometry.{Geo, block_size}
use Rattle.model.specs.Volume.{named, named_in, GoodNode, GoodBelow, GoodTree, Laid}
use Rattle.model.specs.Calls.{DirAt, among, path_to}
use Rattle.model.proofs.Cuts.{found, sub_of_lem}
use Rattle.model.proofs.Full.{good_lookup}
use Rattle.model.proofs.Lists.{not_some, then_some, any_here, any_there, first_here, first_there}
use Rattle.model.proofs.Others.{lookup_here, lookup_there}
use Rattle.model.proofs.Paths.{laid_path}

-- ---- a directory's entries as one list

module _ {X : Type 0} (n : Name) where
  first_left : (es fs : List (Entry X)) → any (called n) es ≡ true → first (called n) (es ++ fs) ≡ first (called n) es
  unfolding any
  first_left [] fs h = absurd (not_both h refl)
  first_left (e ∷ es) fs h = go (either (called n e)) (first_left es fs)
    where
      go : (called n e ≡ true) ⊎ (called n e ≡ false) → (any (called n) es ≡ true → first (called n) (es ++ fs) ≡ first (called n) es)
          → first (called n) (e ∷ (es ++ fs)) ≡ first (called n) (e ∷ es)
      go (inl c) r = first_here (called n) e (es ++ fs) c ∙ sym (first_here (called n) e es c)
      go (inr c) r = first_there (called n) e (es ++ fs) c ∙ r (sym (any_there (called n) e es c) ∙ h) ∙ sym (first_there (called n) e es c)

  first_right : (es fs : List (Entry X)) → any (called n) es ≡ false → first (called n) (es ++ fs) ≡ first (called n) fs
  first_right [] fs h = refl
  first_right (e ∷ es) fs h = go (either (called n e)) (first_right es fs)
    where
      go : (called n e ≡ true) ⊎ (called n e ≡ false) → (any (called n) es ≡ false → first (called n) (es ++ fs) ≡ first (called n) fs)
          → first (called n) (e ∷ (es ++ fs)) ≡ first (called n) fs
      go (inl c) r = absurd (not_both (any_here (called n) e es c) h)
      go (inr c) r = first_there (called n) e (es ++ fs) c ∙ r (sym (any_there (called n) e es c) ∙ h)

  -- What a name gives is the first entry of that name.
  pub lookup_entries : (bs : List (Block X)) → lookup n bs ≡ first (called n) (entries_of bs)
  unfolding lookup entries_of first then
  lookup_entries [] = refl
  lookup_entries (b ∷ bs) = go (either (holds n b)) (lookup_entries bs)
    where
      go : (holds n b ≡ true) ⊎ (holds n b ≡ false) → lookup n bs ≡ first (called n) (entries_of bs) → lookup n (b ∷ bs) ≡ first (called n) (b.entries ++ entries_of bs)
      go (inl c) r = lookup_here n b bs c ∙ sym (first_left b.entries (entries_of bs) (unfold holds in c))
      go (inr c) r = lookup_there n b bs c ∙ r ∙ sym (first_right b.entries (entries_of bs) (unfold holds in c))

  named_both : (es fs : List (Entry X)) → named n (es ++ fs) ≡ named n es + named n fs
  unfolding named
  named_both [] fs = omega arith
  named_both (e ∷ es) fs = omega (arith, named_both es fs)

  -- How many entries have a name.
  pub named_entries : (bs : List (Block X)) → named_in n bs ≡ named n (entries_of bs)
  unfolding named_in named entries_of
  named_entries [] = refl
  named_entries (b ∷ bs) = omega (arith, named_both b.entries (entries_of bs), named_entries bs)

  first_named : (es : List (Entry X)) (e : Entry X) → first (called n) es ≡ some e → 1 ≤ named n es
  unfolding first named
  first_named [] e f = absurd (not_some refl f)
  first_named (x ∷ es) e f = go (either (called n x)) (first_named es e)
    where
      go : (called n x ≡ true) ⊎ (called n x ≡ false) → (first (called n) es ≡ some e → 1 ≤ named n es) → 1 ≤ named n (x ∷ es)
      go (inl c) r = omega (arith, pick_true {A = ℕ} 1 0 c)
      go (inr c) r = omega (arith, r (sym (first_there (called n) x es c) ∙ f))

-- ---- the entry that a path goes through

module _ {X R : Type 0} (o : X → Option R) where
  inside_sub : (x : Node X) (r : R) → inside o x ≡ some r → (t : X) × (x ≡ sub t) × (o t ≡ some r)
  unfolding inside
  inside_sub (file z c) r i = absurd (not_some refl i)
  inside_sub (device z c) r i = absurd (not_some refl i)
  inside_sub (sub t) r i = (t, refl, i)

module _ {X : Type 0} (o : X → Option (List Name)) where
  among_here : (e : Entry X) (es : List (Entry X)) (q : List Name) → inside o e.node ≡ some q → among o (e ∷ es) ≡ some (e.name ∷ q)
  unfolding among or_else then
  among_here e es q i = ap (λ (x : Option (List Name)). or_else (then x (λ p. some (e.name ∷ p))) (among o es)) i

  among_there : (e : Entry X) (es : List (Entry X)) → inside o e.node ≡ none → among o (e ∷ es) ≡ among o es
  unfolding among or_else then
  among_there e es i = ap (λ (x : Option (List Name)). or_else (then x (λ p. some (e.name ∷ p))) (among o es)) i

  -- a subdirectory that a name gives, and a path from there
  abbrev Through : List (Entry X) → List Name → Type 0
  Through es p = (e : Entry X) × (q : List Name) × (first (called e.name) es ≡ some e) × (inside o e.node ≡ some q) × (p ≡ e.name ∷ q)

  among_some : (es : List (Entry X)) (p : List Name) → ((n : Name) → named n es ≤ 1) → among o es ≡ some p → Through es p
  unfolding among
  among_some [] p d h = absurd (not_some refl h)
  among_some (e ∷ es) p d h = go (inside o e.node) refl (among_some es p (λ n. unfold named in omega (arith, d n)))
    where
      go : (x : Option (List Name)) → inside o e.node ≡ x → (among o es ≡ some p → Through es p) → Through (e ∷ es) p
      go none i r =
          let z = r (sym (among_there e es i) ∙ h) in
          (z.0, z.1, first_there (called z.0.name) e es (other z.0 z.2) ∙ z.2, z.3, z.4)
        where
          other : (y : Entry X) → first (called y.name) es ≡ some y → called y.name e ≡ false
          other y f = by (either (called y.name e))
            where
              by : (called y.name e ≡ true) ⊎ (called y.name e ≡ false) → called y.name e ≡ false
              by (inl c) = absurd (unfold named in omega (arith, d y.name, pick_true {A = ℕ} 1 0 c, first_named y.name es y f))
              by (inr c) = c
      go (some q) i r =
          let k : some p ≡ some (e.name ∷ q) = sym h ∙ among_here e es q i in
          let l : p ≡ e.name ∷ q = cc in
          (e, q, first_here (called e.name) e es (unfold called in same_refl e.name), i, l)

  among_none : (es : List (Entry X)) (n : Name) (e : Entry X) → among o es ≡ none → first (called n) es ≡ some e → inside o e.node ≡ none
  unfolding first
  among_none [] n e h f = absurd (not_some refl f)
  among_none (x ∷ es) n e h f = go (inside o x.node) refl (among_none es n e)
    where
      go : (y : Option (List Name)) → inside o x.node ≡ y → (among o es ≡ none → first (called n) es ≡ some e → inside o e.node ≡ none) → inside o e.node ≡ none
      go (some q) i r = absurd (not_some h (among_here x es q i))
      go none i r = by (either (called n x))
        where
          by : (called n x ≡ true) ⊎ (called n x ≡ false) → inside o e.node ≡ none
          by (inl c) =
              let both : some x ≡ some e = sym (first_here (called n) x es c) ∙ f in
              let k : x ≡ e = cc in
              ap (λ (z : Entry X). inside o z.node) (sym k) ∙ i
          by (inr c) = r (sym (among_there x es i) ∙ h) (sym (first_there (called n) x es c) ∙ f)

-- ---- one level down

-- The directory that a name gives is good.
good_down : (B d : ℕ) (n : Name) (t : Tree (suc d)) (e : Entry (Tree d)) (x : Tree d) → GoodTree B (suc d) t → lookup n t ≡ some e → e.node ≡ sub x → GoodTree B d x
unfolding GoodBelow
good_down B d n t e x g l k = subst (GoodNode B (GoodBelow B (suc d))) k (good_lookup B (GoodBelow B (suc d)) n t e g l).below

-- What is found in it by a path is found by the name and the path.
find_down : (d : ℕ) (n : Name) (p : List Name) (t : Tree (suc d)) (s : Some) (e : Entry (Tree d)) (x : Tree d)
    → lookup n t ≡ some e → e.node ≡ sub x → find d p x ≡ some s → find (suc d) (n ∷ p) t ≡ some s
unfolding find inside
find_down d n p t s e x l k f = then_some (λ y. inside (find d p) y.node) l ∙ ap (inside (find d p)) k ∙ f

-- ---- the path to an address

dir_here : (d a : ℕ) (p : List Name) (t : Tree d) → p ≡ [] → a ≡ blocks_at t → DirAt d a p t
unfolding find
dir_here d a p t k e = subst (λ (q : List Name). DirAt d a q t) (sym k) (record { dir = (d, t); there = refl; starts = sym e })

-- The path that is found leads to the directory that starts there.
pub path_found : (B d a : ℕ) (t : Tree d) (p : List Name) → GoodTree B d t → path_to d a t ≡ some p → DirAt d a p t
unfolding path_to
path_found B zero a t p g h = go (either (eqb a (blocks_at t)))
  where
    go : (eqb a (blocks_at t) ≡ true) ⊎ (eqb a (blocks_at t) ≡ false) → DirAt zero a p t
    go (inl c) = let k : some p ≡ some [] = sym h ∙ pick_true _ _ c in let l : p ≡ [] = cc in dir_here zero a p t l (eqb-true a (blocks_at t) c)
    go (inr c) = absurd (not_some (pick_false (some []) none c) h)
path_found B (suc d) a t p g h = go (either (eqb a (blocks_at t))) (λ x q. path_found B d a x q)
  where
    go : (eqb a (blocks_at t) ≡ true) ⊎ (eqb a (blocks_at t) ≡ false) → ((x : Tree d) (q : List Name) → GoodTree B d x → path_to d a x ≡ some q → DirAt d a q x) → DirAt (suc d) a p t
    go (inl c) r = let k : some p ≡ some [] = sym h ∙ pick_true _ _ c in let l : p ≡ [] = cc in dir_here (suc d) a p t l (eqb-true a (blocks_at t) c)
    go (inr c) r =
        let z = among_some (path_to d a) (entries_of t) p (λ n. subst (λ (k : ℕ). k ≤ 1) (named_entries n t) (g.distinct n)) (sym (pick_false (some []) (among (path_to d a) (entries_of t)) c) ∙ h) in
        let l : lookup z.0.name t ≡ some z.0 = lookup_entries z.0.name t ∙ z.2 in
        let y = inside_sub (path_to d a) z.0.node z.1 z.3 in
        let i : DirAt d a z.1 y.0 = r y.0 z.1 (good_down B d z.0.name t z.0 y.0 g l y.1) y.2 in
        subst (λ (q : List Name). DirAt (suc d) a q t) (sym z.4)
        (record { dir = i.dir; there = find_down d z.0.name z.1 t i.dir z.0 y.0 l y.1 i.there; starts = i.starts })

-- Where no path is found, no directory that is reached starts there.
pub path_none : (d a : ℕ) (t : Tree d) → path_to d a t ≡ none → (p : List Name) → DirAt d a p t → ⊥
unfolding path_to find inside
path_none zero a t h [] s =
    let k : (zero, t) ≡ s.dir = let e = s.there in cc in
    not_some h (pick_true (some []) none (eq-eqb a (blocks_at t) (sym (ap (λ (z : Some). blocks_at z.1) k ∙ s.starts))))
path_none (suc d) a t h [] s =
    let k : (suc d, t) ≡ s.dir = let e = s.there in cc in
    not_some h (pick_true (some []) (among (path_to d a) (entries_of t)) (eq-eqb a (blocks_at t) (sym (ap (λ (z : Some). blocks_at z.1) k ∙ s.starts))))
path_none zero a t h (n ∷ p) s = not_some refl s.there
path_none (suc d) a t h (n ∷ p) s = go (either (eqb a (blocks_at t))) (λ x i r. path_none d a x i p r)
  where
    go : (eqb a (blocks_at t) ≡ true) ⊎ (eqb a (blocks_at t) ≡ false) → ((x : Tree d) → path_to d a x ≡ none → DirAt d a p x → ⊥) → ⊥
    go (inl c) r = not_some h (pick_true (some []) (among (path_to d a) (entries_of t)) c)
    go (inr c) r =
        let z = found d n p t s.dir s.there in
        let y = sub_of_lem d (find d p) s.dir z.0.node z.2 in
        let m : among (path_to d a) (entries_of t) ≡ none = sym (pick_false (some []) (among (path_to d a) (entries_of t)) c) ∙ h in
        let i : inside (path_to d a) z.0.node ≡ none = among_none (path_to d a) (entries_of t) n z.0 m (sym (lookup_entries n t) ∙ z.1) in
        r y.0 (sym (ap (inside (path_to d a)) y.1) ∙ i) (record { dir = s.dir; there = y.2; starts = s.starts })

-- In an image that lays out a tree, the path to a directory is the one that is found from its address.
pub path_is : (g : Geo) (I : List ℕ) (d : ℕ) (t : Tree d) (u a : ℕ) (p : List Name) → Laid g I d t u → DirAt d a p t → path_to d a t ≡ some p
path_is g I d t u a p l s = go (path_to d a t) refl
  where
    go : (o : Option (List Name)) → path_to d a t ≡ o → path_to d a t ≡ some p
    go none h = absurd (path_none d a t h p s)
    go (some q) h =
        let r : DirAt d a q t = path_found (block_size g) d a t q l.good h in
        let k : q ≡ p = laid_path g I d t u q p r.dir s.dir l r.there s.there (r.starts ∙ sym s.starts) in
        h ∙ ap (λ (x : List Name). some x) k
