-- The edits keep a good tree good.
use mathlib.Core.Path.{◌≡◌, refl, sym, ap, ◌∙◌, subst}
use mathlib.Core.Bool.{Bool, true, false}
use mathlib.Core.Logic.{◌⊎◌, inl, inr}
use mathlib.Core.Option.{Option, some}
use mathlib.Core.List.{List, [], ◌∷◌, ◌++◌}
use Prim.Native.Nat.{ℕ, zero, suc, ◌+◌, ◌-◌, ◌≤◌, ◌<◌, ◌^◌}
use native.Mathlib.Omega.{arith}
use lib.Dec.{leb}
use lib.ListN.{length, length-append}
use borrow.Author.Tests.{leb-true}
use Rattle.wire.specs.Pick.{pick, same}
use Rattle.wire.proofs.Picks.{either, pick_true, pick_false, same_eq}
use Rattle.model.specs.Tree.{Name, Node, file, device, sub, Entry, Block, Tree, any, first, on_first, less_first, called, holds, Absent, lookup, weight, used, Filled, Packed, fill, insert, change, unless_bare, delete_later, delete, Edit, renew, renewed, at_end, edit, inside, Some, find}
use Rattle.model.specs.Volume.{All, named, named_in, GoodName, GoodNode, GoodEntry, GoodBlock, GoodDir, GoodBelow, GoodTree}
use Rattle.model.proofs.Dirs.{Keeps}
use Rattle.model.proofs.Edits.{renewed_name, find-sub}
use Rattle.model.proofs.Lists.{not_some, then_some, all_append, none_head, none_tail, first_here, first_there, on_first_here, on_first_there, less_first_here, less_first_there}

all_on_first : {A : Type 0} (P : A → Type 0) (q : A → Bool) (h : A → A) (l : List A) → All P l → ((x : A) → first q l ≡ some x → P x → P (h x)) → All P (on_first q h l)
unfolding on_first
all_on_first P q h [] a s = tt
all_on_first {A} P q h (x ∷ l) a s = go (either (q x)) (all_on_first P q h l a.1)
  where
    go : (q x ≡ true) ⊎ (q x ≡ false) → (((y : A) → first q l ≡ some y → P y → P (h y)) → All P (on_first q h l)) → All P (on_first q h (x ∷ l))
    go (inl e) r = subst (All P) (sym (on_first_here q x l e h)) (s x (first_here q x l e) a.0, a.1)
    go (inr e) r = subst (All P) (sym (on_first_there q x l e h)) (a.0, r (λ y f. s y (first_there q x l e ∙ f)))

all_less_first : {A : Type 0} (P : A → Type 0) (q : A → Bool) (l : List A) → All P l → All P (less_first q l)
unfolding less_first
all_less_first P q [] a = tt
all_less_first {A} P q (x ∷ l) a = go (either (q x)) (all_less_first P q l a.1)
  where
    go : (q x ≡ true) ⊎ (q x ≡ false) → All P (less_first q l) → All P (less_first q (x ∷ l))
    go (inl e) r = subst (All P) (sym (less_first_here q x l e)) a.1
    go (inr e) r = subst (All P) (sym (less_first_there q x l e)) (a.0, r)

-- ---- a change of one entry that keeps its name

module _ {X : Type 0} (n : Name) (h : Entry X → Entry X) (k : Keeps h) where
  called_same : (m : Name) (e : Entry X) → called m (h e) ≡ called m e
  unfolding called
  called_same m e = ap (same m) (k e)

  named_change : (m : Name) (es : List (Entry X)) → named m (on_first (called n) h es) ≡ named m es
  unfolding named on_first
  named_change m [] = refl
  named_change m (e ∷ es) = go (either (called n e)) (named_change m es)
    where
      go : (called n e ≡ true) ⊎ (called n e ≡ false) → named m (on_first (called n) h es) ≡ named m es → named m (on_first (called n) h (e ∷ es)) ≡ named m (e ∷ es)
      go (inl c) r = ap (named m) (on_first_here (called n) e es c h) ∙ ap (λ (b : Bool). pick b 1 0 + named m es) (called_same m e)
      go (inr c) r = ap (named m) (on_first_there (called n) e es c h) ∙ ap (λ (z : ℕ). pick (called m e) 1 0 + z) r

  used_same : (es : List (Entry X)) → used (on_first (called n) h es) ≡ used es
  unfolding used on_first weight
  used_same [] = refl
  used_same (e ∷ es) = go (either (called n e)) (used_same es)
    where
      go : (called n e ≡ true) ⊎ (called n e ≡ false) → used (on_first (called n) h es) ≡ used es → used (on_first (called n) h (e ∷ es)) ≡ used (e ∷ es)
      go (inl c) r = ap used (on_first_here (called n) e es c h) ∙ ap (λ (m : Name). 18 + length m + used es) (k e)
      go (inr c) r = ap used (on_first_there (called n) e es c h) ∙ ap (λ (z : ℕ). 18 + length e.name + z) r

  long_same : (es : List (Entry X)) → length (on_first (called n) h es) ≡ length es
  unfolding on_first
  long_same [] = refl
  long_same (e ∷ es) = go (either (called n e)) (long_same es)
    where
      go : (called n e ≡ true) ⊎ (called n e ≡ false) → length (on_first (called n) h es) ≡ length es → length (on_first (called n) h (e ∷ es)) ≡ length (e ∷ es)
      go (inl c) r = ap length (on_first_here (called n) e es c h)
      go (inr c) r = ap length (on_first_there (called n) e es c h) ∙ ap suc r

  named_in-change : (m : Name) (bs : List (Block X)) → named_in m (change n h bs) ≡ named_in m bs
  unfolding named_in change on_first
  named_in-change m [] = refl
  named_in-change m (b ∷ bs) = go (either (holds n b)) (named_in-change m bs)
    where
      go : (holds n b ≡ true) ⊎ (holds n b ≡ false) → named_in m (change n h bs) ≡ named_in m bs → named_in m (change n h (b ∷ bs)) ≡ named_in m (b ∷ bs)
      go (inl c) r = ap (named_in m) (on_first_here (holds n) b bs c (fill (on_first (called n) h))) ∙ ap (λ (z : ℕ). z + named_in m bs) (named_change m b.entries)
      go (inr c) r = ap (named_in m) (on_first_there (holds n) b bs c (fill (on_first (called n) h))) ∙ ap (λ (z : ℕ). named m b.entries + z) r

  filled_change : (bs : List (Block X)) → Filled bs → Filled (change n h bs)
  unfolding change on_first
  filled_change [] f = tt
  filled_change (b ∷ bs) f = go (either (holds n b)) (filled_change bs f.1)
    where
      go : (holds n b ≡ true) ⊎ (holds n b ≡ false) → Filled (change n h bs) → Filled (change n h (b ∷ bs))
      go (inl c) r = subst (λ (l : List (Block X)). Filled l) (sym (on_first_here (holds n) b bs c (fill (on_first (called n) h)))) (omega (arith, long_same b.entries, f.0), f.1)
      go (inr c) r = subst (λ (l : List (Block X)). Filled l) (sym (on_first_there (holds n) b bs c (fill (on_first (called n) h)))) (f.0, r)

  packed_change : (bs : List (Block X)) → Packed bs → Packed (change n h bs)
  unfolding change on_first
  packed_change [] f = f
  packed_change (b ∷ bs) f = go (either (holds n b))
    where
      go : (holds n b ≡ true) ⊎ (holds n b ≡ false) → Packed (change n h (b ∷ bs))
      go (inl c) = subst (λ (l : List (Block X)). Packed l) (sym (on_first_here (holds n) b bs c (fill (on_first (called n) h)))) f
      go (inr c) = subst (λ (l : List (Block X)). Packed l) (sym (on_first_there (holds n) b bs c (fill (on_first (called n) h)))) (filled_change bs f)

  pub good_change : (B : ℕ) (S : X → Type 0) (bs : List (Block X)) → GoodDir B S bs → ((e : Entry X) → lookup n bs ≡ some e → GoodEntry B S e → GoodEntry B S (h e)) → GoodDir B S (change n h bs)
  unfolding change lookup
  good_change B S bs g s = record {
    packed = packed_change bs g.packed;
    distinct = λ m. rw (named_in-change m bs) (g.distinct m);
    all = all_on_first (GoodBlock B S) (holds n) (fill (on_first (called n) h)) bs g.all
        (λ b f a. record {
          fits = rw (used_same b.entries) a.fits;
          each = all_on_first (GoodEntry B S) (called n) h b.entries a.each (λ e i. s e (then_some (λ c. first (called n) c.entries) f ∙ i));
        });
  }

-- ---- an edit at a path

module _ (B d : ℕ) (f : Tree d → Tree d) (g : ℕ → ℕ) (o : Tree d → Option Some) (s : Some)
    (r : (t : Tree d) → GoodTree B d t → o t ≡ some s → GoodTree B d (f t)) (q : (k : ℕ) → k < 2 ^ 64 → g k < 2 ^ 64) where
  good_renew : (n : Name) (k : ℕ) (x : Node (Tree d)) → inside o x ≡ some s
      → GoodName n → k < 2 ^ 64 → GoodNode B (GoodBelow B (suc d)) x → GoodEntry B (GoodBelow B (suc d)) (renew f g n k x)
  unfolding inside renew GoodBelow
  good_renew n k (file z cs) i a b c = absurd (not_some refl i)
  good_renew n k (device z cs) i a b c = absurd (not_some refl i)
  good_renew n k (sub x) i a b c = record { good_name = a; clock = q k b; below = r x c i }

at_end_small : (p : List Name) (g : ℕ → ℕ) → ((k : ℕ) → k < 2 ^ 64 → g k < 2 ^ 64) → (k : ℕ) → k < 2 ^ 64 → at_end p g k < 2 ^ 64
unfolding at_end
at_end_small [] g q k h = q k h
at_end_small (n ∷ p) g q k h = h

pub good_edit : (B d : ℕ) (p : List Name) (g : ℕ → ℕ) (f : Edit) (t : Tree d) (s : Some) → find d p t ≡ some s → GoodTree B d t → GoodTree B s.0 (f s.0 s.1)
    → ((k : ℕ) → k < 2 ^ 64 → g k < 2 ^ 64) → GoodTree B d (edit d p g f t)
unfolding find edit renewed
good_edit B zero [] g f t s h a b q = let k : (zero, t) ≡ s = cc in subst (λ (x : Some). GoodTree B x.0 (f x.0 x.1)) (sym k) b
good_edit B (suc d) [] g f t s h a b q = let k : (suc d, t) ≡ s = cc in subst (λ (x : Some). GoodTree B x.0 (f x.0 x.1)) (sym k) b
good_edit B zero (n ∷ p) g f t s h a b q = a
good_edit B (suc d) (n ∷ p) g f t s h a b q =
    good_change n (renewed (edit d p g f) (at_end p g)) (renewed_name _ _) B (GoodBelow B (suc d)) t a
    (λ e l c. good_renew B d (edit d p g f) (at_end p g) (find d p) s (λ y x i. good_edit B d p g f y s i x b q) (at_end_small p g q) e.name e.time e.node (find-sub d n p t s e l h)
    c.good_name c.clock c.below)

-- ---- insert

none_named : {X : Type 0} (m : Name) (es : List (Entry X)) → any (called m) es ≡ false → named m es ≡ 0
unfolding named
none_named m [] n = refl
none_named m (x ∷ es) n = omega (arith, pick_false {A = ℕ} 1 0 (none_head (called m) x es n), none_named m es (none_tail (called m) x es n))

none_in : {X : Type 0} (m : Name) (bs : List (Block X)) → Absent m bs → named_in m bs ≡ 0
unfolding named_in holds
none_in m [] n = refl
none_in m (b ∷ bs) n = omega (arith, none_named m b.entries (none_head (holds m) b bs n), none_in m bs (none_tail (holds m) b bs n))

module _ {X : Type 0} (B : ℕ) (S : X → Type 0) (w : ℕ) (e : Entry X) where
  used_append : (es : List (Entry X)) → used (es ++ (e ∷ [])) ≡ used es + weight e
  unfolding used
  used_append [] = omega arith
  used_append (x ∷ es) = omega (arith, used_append es)

  named_append : (m : Name) (es : List (Entry X)) → named m (es ++ (e ∷ [])) ≡ named m es + pick (called m e) 1 0
  unfolding named
  named_append m [] = omega arith
  named_append m (x ∷ es) = omega (arith, named_append m es)

  named_in-insert : (m : Name) (bs : List (Block X)) → named_in m (insert (B - 5) w e bs) ≡ named_in m bs + pick (called m e) 1 0
  unfolding named_in insert named
  named_in-insert m [] = omega arith
  named_in-insert m (b ∷ bs) = go (either (leb (used b.entries + weight e) (B - 5))) (named_in-insert m bs)
    where
      go : (leb (used b.entries + weight e) (B - 5) ≡ true) ⊎ (leb (used b.entries + weight e) (B - 5) ≡ false) → named_in m (insert (B - 5) w e bs) ≡ named_in m bs + pick (called m e) 1 0
          → named_in m (insert (B - 5) w e (b ∷ bs)) ≡ named_in m (b ∷ bs) + pick (called m e) 1 0
      go (inl c) r = ap (named_in m) (pick_true (fill (λ es. es ++ (e ∷ [])) b ∷ bs) (b ∷ insert (B - 5) w e bs) c) ∙ omega (arith, named_append m b.entries)
      go (inr c) r = ap (named_in m) (pick_false (fill (λ es. es ++ (e ∷ [])) b ∷ bs) (b ∷ insert (B - 5) w e bs) c) ∙ omega (arith, r)

  filled_insert : (bs : List (Block X)) → Filled bs → Filled (insert (B - 5) w e bs)
  unfolding insert
  filled_insert [] f = (omega arith, tt)
  filled_insert (b ∷ bs) f = go (either (leb (used b.entries + weight e) (B - 5))) (filled_insert bs f.1)
    where
      go : (leb (used b.entries + weight e) (B - 5) ≡ true) ⊎ (leb (used b.entries + weight e) (B - 5) ≡ false) → Filled (insert (B - 5) w e bs) → Filled (insert (B - 5) w e (b ∷ bs))
      go (inl c) r = subst (λ (l : List (Block X)). Filled l) (sym (pick_true (fill (λ es. es ++ (e ∷ [])) b ∷ bs) (b ∷ insert (B - 5) w e bs) c)) (rw length-append (omega arith), f.1)
      go (inr c) r = subst (λ (l : List (Block X)). Filled l) (sym (pick_false (fill (λ es. es ++ (e ∷ [])) b ∷ bs) (b ∷ insert (B - 5) w e bs) c)) (f.0, r)

  packed_insert : (bs : List (Block X)) → Packed bs → Packed (insert (B - 5) w e bs)
  unfolding insert
  packed_insert [] f = absurd f
  packed_insert (b ∷ bs) f = go (either (leb (used b.entries + weight e) (B - 5)))
    where
      go : (leb (used b.entries + weight e) (B - 5) ≡ true) ⊎ (leb (used b.entries + weight e) (B - 5) ≡ false) → Packed (insert (B - 5) w e (b ∷ bs))
      go (inl c) = subst (λ (l : List (Block X)). Packed l) (sym (pick_true (fill (λ es. es ++ (e ∷ [])) b ∷ bs) (b ∷ insert (B - 5) w e bs) c)) f
      go (inr c) = subst (λ (l : List (Block X)). Packed l) (sym (pick_false (fill (λ es. es ++ (e ∷ [])) b ∷ bs) (b ∷ insert (B - 5) w e bs) c)) (filled_insert bs f)

  module _ (g : GoodEntry B S e) (room : weight e ≤ B - 5) where
    all_insert : (bs : List (Block X)) → All (GoodBlock B S) bs → All (GoodBlock B S) (insert (B - 5) w e bs)
    unfolding insert used
    all_insert [] a = (record { fits = omega (arith, room); each = (g, tt) }, tt)
    all_insert (b ∷ bs) a = go (either (leb (used b.entries + weight e) (B - 5))) (all_insert bs a.1)
      where
        go : (leb (used b.entries + weight e) (B - 5) ≡ true) ⊎ (leb (used b.entries + weight e) (B - 5) ≡ false) → All (GoodBlock B S) (insert (B - 5) w e bs) → All (GoodBlock B S) (insert (B - 5) w e (b ∷ bs))
        go (inl c) r =
            subst (All (GoodBlock B S)) (sym (pick_true (fill (λ es. es ++ (e ∷ [])) b ∷ bs) (b ∷ insert (B - 5) w e bs) c))
            (record { fits = rw (used_append b.entries) (leb-true _ _ c); each = all_append (GoodEntry B S) b.entries (e ∷ []) a.0.each (g, tt) }, a.1)
        go (inr c) r = subst (All (GoodBlock B S)) (sym (pick_false (fill (λ es. es ++ (e ∷ [])) b ∷ bs) (b ∷ insert (B - 5) w e bs) c)) (a.0, r)

    pub good_insert : (bs : List (Block X)) → GoodDir B S bs → Absent e.name bs → GoodDir B S (insert (B - 5) w e bs)
    unfolding called
    good_insert bs d a = record {
      packed = packed_insert bs d.packed;
      distinct = λ m. rw (named_in-insert m bs) (one m (either (called m e)));
      all = all_insert bs d.all;
    }
      where
        one : (m : Name) → (called m e ≡ true) ⊎ (called m e ≡ false) → named_in m bs + pick (called m e) 1 0 ≤ 1
        one m (inl c) = omega (arith, pick_true {A = ℕ} 1 0 c, none_in m bs (subst (λ (z : Name). Absent z bs) (sym (same_eq m e.name c)) a))
        one m (inr c) = omega (arith, pick_false {A = ℕ} 1 0 c, d.distinct m)

-- ---- delete

module _ {X : Type 0} (n : Name) where
  used_less : (es : List (Entry X)) → used (less_first (called n) es) ≤ used es
  unfolding used less_first
  used_less [] = omega arith
  used_less (e ∷ es) = go (either (called n e)) (used_less es)
    where
      go : (called n e ≡ true) ⊎ (called n e ≡ false) → used (less_first (called n) es) ≤ used es → used (less_first (called n) (e ∷ es)) ≤ used (e ∷ es)
      go (inl c) r = rw (less_first_here (called n) e es c) (omega arith)
      go (inr c) r = rw (less_first_there (called n) e es c) (omega (arith, r))

  named_less : (m : Name) (es : List (Entry X)) → named m (less_first (called n) es) ≤ named m es
  unfolding named less_first
  named_less m [] = omega arith
  named_less m (e ∷ es) = go (either (called n e)) (named_less m es)
    where
      go : (called n e ≡ true) ⊎ (called n e ≡ false) → named m (less_first (called n) es) ≤ named m es → named m (less_first (called n) (e ∷ es)) ≤ named m (e ∷ es)
      go (inl c) r = rw (less_first_here (called n) e es c) (omega arith)
      go (inr c) r = rw (less_first_there (called n) e es c) (omega (arith, r))

  -- the block of what is left, or none
  bare_named : (m : Name) (a : ℕ) (es : List (Entry X)) (bs : List (Block X)) → named_in m (unless_bare a es bs) ≡ named m es + named_in m bs
  unfolding unless_bare named_in named
  bare_named m a [] bs = omega arith
  bare_named m a (e ∷ es) bs = refl

  bare_filled : (a : ℕ) (es : List (Entry X)) (bs : List (Block X)) → Filled bs → Filled (unless_bare a es bs)
  unfolding unless_bare
  bare_filled a [] bs f = f
  bare_filled a (e ∷ es) bs f = (omega arith, f)

  bare_all : (P : Block X → Type 0) (a : ℕ) (es : List (Entry X)) (bs : List (Block X)) → P (record { at = a; entries = es }) → All P bs → All P (unless_bare a es bs)
  unfolding unless_bare
  bare_all P a [] bs p f = f
  bare_all P a (e ∷ es) bs p f = (p, f)

  less_good : (B : ℕ) (S : X → Type 0) (b : Block X) → GoodBlock B S b → GoodBlock B S (fill (less_first (called n)) b)
  less_good B S b g = record { fits = omega (arith, used_less b.entries, g.fits); each = all_less_first (GoodEntry B S) (called n) b.entries g.each }

  -- a property that each case of delete keeps
  later_cases : (P : List (Block X) → Type 0) (b : Block X) (bs : List (Block X))
      → P (unless_bare b.at (less_first (called n) b.entries) bs) → P (b ∷ delete_later n bs) → P (delete_later n (b ∷ bs))
  unfolding delete_later
  later_cases P b bs x y = go (either (holds n b))
    where
      go : (holds n b ≡ true) ⊎ (holds n b ≡ false) → P (delete_later n (b ∷ bs))
      go (inl c) = subst P (sym (pick_true _ _ c)) x
      go (inr c) = subst P (sym (pick_false _ _ c)) y

  delete_cases : (P : List (Block X) → Type 0) (b : Block X) (bs : List (Block X))
      → P (fill (less_first (called n)) b ∷ bs) → P (b ∷ delete_later n bs) → P (delete n (b ∷ bs))
  unfolding delete
  delete_cases P b bs x y = go (either (holds n b))
    where
      go : (holds n b ≡ true) ⊎ (holds n b ≡ false) → P (delete n (b ∷ bs))
      go (inl c) = subst P (sym (pick_true _ _ c)) x
      go (inr c) = subst P (sym (pick_false _ _ c)) y

  later_filled : (bs : List (Block X)) → Filled bs → Filled (delete_later n bs)
  unfolding delete_later
  later_filled [] f = tt
  later_filled (b ∷ bs) f = later_cases (λ l. Filled l) b bs (bare_filled b.at (less_first (called n) b.entries) bs f.1) (f.0, later_filled bs f.1)

  later_named : (m : Name) (bs : List (Block X)) → named_in m (delete_later n bs) ≤ named_in m bs
  unfolding delete_later named_in
  later_named m [] = omega arith
  later_named m (b ∷ bs) =
      later_cases (λ l. named_in m l ≤ named_in m (b ∷ bs)) b bs
      (omega (arith, bare_named m b.at (less_first (called n) b.entries) bs, named_less m b.entries)) (omega (arith, later_named m bs))

  later_good : (B : ℕ) (S : X → Type 0) (bs : List (Block X)) → All (GoodBlock B S) bs → All (GoodBlock B S) (delete_later n bs)
  unfolding delete_later
  later_good B S [] g = tt
  later_good B S (b ∷ bs) g =
      later_cases (All (GoodBlock B S)) b bs (bare_all (GoodBlock B S) b.at (less_first (called n) b.entries) bs (less_good B S b g.0) g.1) (g.0, later_good B S bs g.1)

  pub good_delete : (B : ℕ) (S : X → Type 0) (bs : List (Block X)) → GoodDir B S bs → GoodDir B S (delete n bs)
  unfolding named_in
  good_delete B S [] g = absurd g.packed
  good_delete B S (b ∷ bs) g = record {
    packed = delete_cases (λ l. Packed l) b bs g.packed (later_filled bs g.packed);
    distinct = λ m. delete_cases (λ l. named_in m l ≤ 1) b bs (omega (arith, g.distinct m, named_less m b.entries)) (omega (arith, g.distinct m, later_named m bs));
    all = delete_cases (All (GoodBlock B S)) b bs (less_good B S b g.all.0, g.all.1) (g.all.0, later_good B S bs g.all.1);
  }
