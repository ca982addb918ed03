-- Two trees that differ in the time of one directory's own entry show the same bytes but for those eight.
use mathlib.Core.Path.{◌≡◌, refl, sym, ap, ◌∙◌, subst}
use mathlib.Core.Bool.{true, false}
use mathlib.Core.Logic.{◌⊎◌, inl, inr}
use mathlib.Core.Option.{Option, some}
use mathlib.Core.List.{List, [], ◌∷◌, ◌++◌}
use Prim.Native.Nat.{ℕ, zero, suc, ◌+◌, ◌-◌, ◌*◌, ◌≤◌, ◌<◌}
use native.Mathlib.Nat.{add-zero}
use native.Mathlib.Omega.{arith}
use native.Mathlib.Decide.{dec_lt}
use lib.ListN.{length, get_or, replicate, length-append, get_or-append, get_or-eq_default}
use lib.Seq.{get_or-append-add}
use Rattle.wire.specs.Be.{bytes}
use Rattle.wire.proofs.Numbers.{length_bytes}
use Rattle.wire.proofs.Picks.{either, pick_true, pick_false}
use Rattle.model.specs.Tree.{Name, Node, file, device, sub, Entry, Block, Tree, first, on_first, then, called, holds, lookup, weight, used, sum, fill, change, Edit, renew, renewed, at_end, edit, inside}
use Rattle.model.specs.Render.{Piece, View, blocks_at, padded, kind_of, address_of, size_of, entry_bytes, entries_bytes, cell_pieces, node_pieces, entry_pieces, dir_pieces, view, render, offset, place_of, own_time, InTime, ats}
use Rattle.model.proofs.Dirs.{Keeps}
use Rattle.model.proofs.Edits.{renewed_name}
use Rattle.model.proofs.Lists.{then_some, first_here, first_there, on_first_here, on_first_there}

-- ---- what a change of one entry keeps

module _ {X : Type 0} (n : Name) (h : Entry X → Entry X) where
  pub change_at : (bs : List (Block X)) → blocks_at (change n h bs) ≡ blocks_at bs
  unfolding change blocks_at on_first
  change_at [] = refl
  change_at (b ∷ bs) = go (either (holds n b))
    where
      go : (holds n b ≡ true) ⊎ (holds n b ≡ false) → blocks_at (change n h (b ∷ bs)) ≡ b.at
      go (inl c) = ap blocks_at (on_first_here (holds n) b bs c (fill (on_first (called n) h)))
      go (inr c) = ap blocks_at (on_first_there (holds n) b bs c (fill (on_first (called n) h)))

  used_change : Keeps h → (es : List (Entry X)) → used (on_first (called n) h es) ≡ used es
  unfolding used on_first weight
  used_change k [] = refl
  used_change k (e ∷ es) = go (either (called n e)) (used_change k es)
    where
      go : (called n e ≡ true) ⊎ (called n e ≡ false) → used (on_first (called n) h es) ≡ used es → used (on_first (called n) h (e ∷ es)) ≡ used (e ∷ es)
      go (inl c) r = ap used (on_first_here (called n) e es c h) ∙ ap (λ (m : Name). 18 + length m + used es) (k e)
      go (inr c) r = ap used (on_first_there (called n) e es c h) ∙ ap (λ (z : ℕ). 18 + length e.name + z) r

  pub change-sum : Keeps h → (bs : List (Block X)) → sum (change n h bs) ≡ sum bs
  unfolding sum change on_first
  change-sum k [] = refl
  change-sum k (b ∷ bs) = go (either (holds n b)) (change-sum k bs)
    where
      go : (holds n b ≡ true) ⊎ (holds n b ≡ false) → sum (change n h bs) ≡ sum bs → sum (change n h (b ∷ bs)) ≡ sum (b ∷ bs)
      go (inl c) r = ap sum (on_first_here (holds n) b bs c (fill (on_first (called n) h))) ∙ ap (λ (z : ℕ). z + sum bs) (used_change k b.entries)
      go (inr c) r = ap sum (on_first_there (holds n) b bs c (fill (on_first (called n) h))) ∙ ap (λ (z : ℕ). used b.entries + z) r

-- ---- lists of bytes that stand at byte k, and agree but where P excuses them

pub record Near (P : ℕ → Type 0) (k : ℕ) (l m : List ℕ) : Type 0 where
  pub long : length l ≡ length m
  pub agree : (i : ℕ) → (P (k + i) → ⊥) → get_or l i 0 ≡ get_or m i 0

module _ (P : ℕ → Type 0) where
  near_refl : (k : ℕ) (l : List ℕ) → Near P k l l
  near_refl k l = record { long = refl; agree = λ i _. refl }

  near_eq : (k : ℕ) (l m : List ℕ) → l ≡ m → Near P k l m
  near_eq k l m e = subst (Near P k l) e (near_refl k l)

  near_to : (k j : ℕ) (l m : List ℕ) → k ≡ j → Near P k l m → Near P j l m
  near_to k j l m e a = subst (λ (x : ℕ). Near P x l m) e a

  near_covered : (k : ℕ) (l m : List ℕ) → length l ≡ length m → ((i : ℕ) → i < length l → P (k + i)) → Near P k l m
  near_covered k l m e c = record { long = e; agree = λ i x. go i x (dec_lt i (length l)) }
    where
      go : (i : ℕ) → (P (k + i) → ⊥) → Dec (i < length l) → get_or l i 0 ≡ get_or m i 0
      go i x (yes p) = absurd (x (c i p))
      go i x (no p) = get_or-eq_default l 0 (omega arith) ∙ sym (get_or-eq_default m 0 (omega arith))

  near_append : (k : ℕ) (l m l' m' : List ℕ) → Near P k l l' → Near P (k + length l) m m' → Near P k (l ++ m) (l' ++ m')
  near_append k l m l' m' a b = record { long = rw (length-append l m, length-append l' m') (omega (arith, a.long, b.long)); agree = λ i x. go i x (dec_lt i (length l)) }
    where
      go : (i : ℕ) → (P (k + i) → ⊥) → Dec (i < length l) → get_or (l ++ m) i 0 ≡ get_or (l' ++ m') i 0
      go i x (yes p) = get_or-append l m 0 i p ∙ a.agree i x ∙ sym (get_or-append l' m' 0 i (omega (arith, a.long)))
      go i x (no p) =
          let j : ℕ = i - length l in
          let e : i ≡ length l + j = omega arith in
          let e' : length l' + j ≡ i = omega (arith, a.long) in
          let w : k + length l + j ≡ k + i = omega arith in
          ap (λ (z : ℕ). get_or (l ++ m) z 0) e ∙ get_or-append-add l m j 0 ∙ b.agree j (λ y. x (subst P w y)) ∙ sym (get_or-append-add l' m' j 0)
          ∙ ap (λ (z : ℕ). get_or (l' ++ m') z 0) e'

  near_padded : (k n : ℕ) (l m : List ℕ) → Near P k l m → Near P k (padded n l) (padded n m)
  unfolding padded
  near_padded k n l m a = near_append k l _ m _ a (near_eq _ _ _ (ap (λ (z : ℕ). replicate (n - z) 0) a.long))

  -- pieces
  abbrev pub Alike : ℕ → List Piece → List Piece → Type 0
  Alike B [] [] = Unit {0}
  Alike B [] (y ∷ ys) = ⊥
  Alike B (x ∷ xs) [] = ⊥
  Alike B (x ∷ xs) (y ∷ ys) = (x.at ≡ y.at) × Near P (B * x.at) x.full y.full × Alike B xs ys

  pub alike_refl : (B : ℕ) (xs : List Piece) → Alike B xs xs
  alike_refl B [] = tt
  alike_refl B (x ∷ xs) = (refl, near_refl _ _, alike_refl B xs)

  alike_append : (B : ℕ) (xs xs' ys ys' : List Piece) → Alike B xs xs' → Alike B ys ys' → Alike B (xs ++ ys) (xs' ++ ys')
  alike_append B [] [] ys ys' a b = b
  alike_append B [] (x ∷ xs') ys ys' a b = absurd a
  alike_append B (x ∷ xs) [] ys ys' a b = absurd a
  alike_append B (x ∷ xs) (x' ∷ xs') ys ys' a b = (a.0, a.1, alike_append B xs xs' ys ys' a.2 b)

  pub alike_ats : (B : ℕ) (xs ys : List Piece) → Alike B xs ys → ats xs ≡ ats ys
  unfolding ats
  alike_ats B [] [] a = refl
  alike_ats B [] (y ∷ ys) a = absurd a
  alike_ats B (x ∷ xs) [] a = absurd a
  alike_ats B (x ∷ xs) (y ∷ ys) a = let p = a.0 in let r = alike_ats B xs ys a.2 in cc

-- ---- an entry

pub length_entry : {X : Type 0} (v : View X) (e : Entry X) → length (entry_bytes v e) ≡ weight e
unfolding entry_bytes weight
length_entry v e =
    simp length-append (omega (arith, length_bytes 4 (address_of v e.node), length_bytes 4 (size_of v e.node), length_bytes 8 e.time))

-- ---- a change of one entry, in the bytes of a directory

module _ {X : Type 0} (P : ℕ → Type 0) (B : ℕ) (v : View X) (n : Name) (h : Entry X → Entry X) where
  near_entries : (es : List (Entry X)) (k : ℕ)
      → ((e : Entry X) → first (called n) es ≡ some e → Near P (k + offset n es) (entry_bytes v e) (entry_bytes v (h e)))
      → Near P k (entries_bytes v es) (entries_bytes v (on_first (called n) h es))
  unfolding entries_bytes on_first offset
  near_entries [] k s = near_refl P k []
  near_entries (e ∷ es) k s = go (either (called n e)) (near_entries es)
    where
      go : (called n e ≡ true) ⊎ (called n e ≡ false)
          → ((k : ℕ) → ((e : Entry X) → first (called n) es ≡ some e → Near P (k + offset n es) (entry_bytes v e) (entry_bytes v (h e))) → Near P k (entries_bytes v es) (entries_bytes v (on_first (called n) h es)))
          → Near P k (entries_bytes v (e ∷ es)) (entries_bytes v (on_first (called n) h (e ∷ es)))
      go (inl c) r =
          subst (λ (l : List (Entry X)). Near P k (entries_bytes v (e ∷ es)) (entries_bytes v l)) (sym (on_first_here (called n) e es c h))
          (near_append P k (entry_bytes v e) (entries_bytes v es) (entry_bytes v (h e)) (entries_bytes v es)
          (near_to P _ k _ _ (ap (λ (z : ℕ). k + z) (pick_true 0 (weight e + offset n es) c) ∙ add-zero k) (s e (first_here (called n) e es c)))
          (near_refl P _ _))
      go (inr c) r =
          subst (λ (l : List (Entry X)). Near P k (entries_bytes v (e ∷ es)) (entries_bytes v l)) (sym (on_first_there (called n) e es c h))
          (near_append P k (entry_bytes v e) (entries_bytes v es) (entry_bytes v e) (entries_bytes v (on_first (called n) h es))
          (near_refl P _ _)
          (r (k + length (entry_bytes v e))
          (λ x f. near_to P _ _ _ _ (ap (λ (z : ℕ). k + z) (pick_false 0 (weight e + offset n es) c) ∙ omega (arith, length_entry v e)) (s x (first_there (called n) e es c ∙ f)))))

  alike_entries : (es : List (Entry X))
      → ((e : Entry X) → first (called n) es ≡ some e → Alike P B (node_pieces v e.node) (node_pieces v (h e).node))
      → Alike P B (entry_pieces v es) (entry_pieces v (on_first (called n) h es))
  unfolding entry_pieces on_first
  alike_entries [] s = tt
  alike_entries (e ∷ es) s = go (either (called n e)) (alike_entries es)
    where
      go : (called n e ≡ true) ⊎ (called n e ≡ false)
          → (((e : Entry X) → first (called n) es ≡ some e → Alike P B (node_pieces v e.node) (node_pieces v (h e).node)) → Alike P B (entry_pieces v es) (entry_pieces v (on_first (called n) h es)))
          → Alike P B (entry_pieces v (e ∷ es)) (entry_pieces v (on_first (called n) h (e ∷ es)))
      go (inl c) r =
          subst (λ (l : List (Entry X)). Alike P B (entry_pieces v (e ∷ es)) (entry_pieces v l)) (sym (on_first_here (called n) e es c h))
          (alike_append P B (node_pieces v e.node) (node_pieces v (h e).node) (entry_pieces v es) (entry_pieces v es) (s e (first_here (called n) e es c)) (alike_refl P B (entry_pieces v es)))
      go (inr c) r =
          subst (λ (l : List (Entry X)). Alike P B (entry_pieces v (e ∷ es)) (entry_pieces v l)) (sym (on_first_there (called n) e es c h))
          (alike_append P B (node_pieces v e.node) (node_pieces v e.node) (entry_pieces v es) (entry_pieces v (on_first (called n) h es)) (alike_refl P B (node_pieces v e.node))
          (r (λ x f. s x (first_there (called n) e es c ∙ f))))

  alike_dir : (bs : List (Block X))
      → ((e : Entry X) → lookup n bs ≡ some e → Near P (place_of B n bs) (entry_bytes v e) (entry_bytes v (h e)) × Alike P B (node_pieces v e.node) (node_pieces v (h e).node))
      → Alike P B (dir_pieces B v bs) (dir_pieces B v (change n h bs))
  unfolding dir_pieces change on_first place_of lookup
  alike_dir [] s = tt
  alike_dir (b ∷ bs) s = go (either (holds n b)) (alike_dir bs)
    where
      go : (holds n b ≡ true) ⊎ (holds n b ≡ false)
          → (((e : Entry X) → lookup n bs ≡ some e → Near P (place_of B n bs) (entry_bytes v e) (entry_bytes v (h e)) × Alike P B (node_pieces v e.node) (node_pieces v (h e).node)) → Alike P B (dir_pieces B v bs) (dir_pieces B v (change n h bs)))
          → Alike P B (dir_pieces B v (b ∷ bs)) (dir_pieces B v (change n h (b ∷ bs)))
      go (inl c) r =
          let found : (e : Entry X) → first (called n) b.entries ≡ some e → lookup n (b ∷ bs) ≡ some e
          = λ e f. then_some (λ x. first (called n) x.entries) (first_here (holds n) b bs c) ∙ f in
          let place : place_of B n (b ∷ bs) ≡ B * b.at + 4 + offset n b.entries = pick_true _ _ c in
          subst (λ (l : List (Block X)). Alike P B (dir_pieces B v (b ∷ bs)) (dir_pieces B v l)) (sym (on_first_here (holds n) b bs c (fill (on_first (called n) h)))) (
            refl,
            near_append P (B * b.at) (bytes 4 (blocks_at bs)) _ (bytes 4 (blocks_at bs)) _ (near_refl P _ _)
                (near_padded P _ (B - 4) _ _ (near_entries b.entries _
                (λ e f. near_to P _ _ _ _ (place ∙ omega (arith, length_bytes 4 (blocks_at bs))) (s e (found e f)).0))),
            alike_append P B (entry_pieces v b.entries) (entry_pieces v (on_first (called n) h b.entries)) (dir_pieces B v bs) (dir_pieces B v bs) (alike_entries b.entries (λ e f. (s e (found e f)).1)) (alike_refl P B (dir_pieces B v bs)),
          )
      go (inr c) r =
          let found : (e : Entry X) → lookup n bs ≡ some e → lookup n (b ∷ bs) ≡ some e
          = λ e f. ap (λ (o : Option (Block X)). then o (λ x. first (called n) x.entries)) (first_there (holds n) b bs c) ∙ f in
          let place : place_of B n (b ∷ bs) ≡ place_of B n bs = pick_false _ _ c in
          subst (λ (l : List (Block X)). Alike P B (dir_pieces B v (b ∷ bs)) (dir_pieces B v l)) (sym (on_first_there (holds n) b bs c (fill (on_first (called n) h)))) (
            refl,
            near_eq P _ _ _ (ap (λ (z : ℕ). bytes 4 z ++ padded (B - 4) (entries_bytes v b.entries)) (sym (change_at n h bs))),
            alike_append P B (entry_pieces v b.entries) (entry_pieces v b.entries) (dir_pieces B v bs) (dir_pieces B v (change n h bs)) (alike_refl P B (entry_pieces v b.entries))
                (r (λ e f. (near_to P _ _ _ _ place (s e (found e f)).0, (s e (found e f)).1))),
          )

-- ---- the time of a directory's own entry

idle : Edit
idle d t = t

edit_at : (d : ℕ) (p : List Name) (g : ℕ → ℕ) (t : Tree d) → blocks_at (edit d p g (λ e s. s) t) ≡ blocks_at t
unfolding edit
edit_at zero [] g t = refl
edit_at (suc d) [] g t = refl
edit_at zero (n ∷ p) g t = refl
edit_at (suc d) (n ∷ p) g t = change_at n _ t

edit-sum : (d : ℕ) (p : List Name) (g : ℕ → ℕ) (t : Tree d) → sum (edit d p g (λ e s. s) t) ≡ sum t
unfolding edit
edit-sum zero [] g t = refl
edit-sum (suc d) [] g t = refl
edit-sum zero (n ∷ p) g t = refl
edit-sum (suc d) (n ∷ p) g t = change-sum n _ (renewed_name _ _) t

module _ (P : ℕ → Type 0) (B : ℕ) where
  -- the entry itself, its time renewed
  near_time : (d : ℕ) (g : ℕ → ℕ) (k : ℕ) → ((j : ℕ) → k + 9 ≤ j → j < k + 17 → P j) → (n : Name) (c : ℕ) (x : Node (Tree d))
      → Near P k (entry_bytes (view B (suc d)) (record { name = n; time = c; node = x })) (entry_bytes (view B (suc d)) (renew (λ s. s) g n c x))
  unfolding renew entry_bytes
  near_time d g k s n c (file z cs) = near_refl P k _
  near_time d g k s n c (device z cs) = near_refl P k _
  near_time d g k s n c (sub x) =
      let a : List ℕ = kind_of (sub x) ∷ (bytes 4 (address_of (view B (suc d)) (sub x)) ++ bytes 4 (size_of (view B (suc d)) (sub x))) in
      let la : length a ≡ 9 = rw length-append (omega (arith, length_bytes 4 (address_of (view B (suc d)) (sub x)), length_bytes 4 (size_of (view B (suc d)) (sub x)))) in
      near_append P k a _ a _ (near_refl P k a)
      (near_append P _ (bytes 8 c) _ (bytes 8 (g c)) _
      (near_covered P _ _ _ (length_bytes 8 c ∙ sym (length_bytes 8 (g c))) (λ i q. s _ (omega arith) (omega (arith, length_bytes 8 c))))
      (near_refl P _ _))

  pieces_time : (d : ℕ) (g : ℕ → ℕ) (n : Name) (c : ℕ) (x : Node (Tree d))
      → Alike P B (node_pieces (view B (suc d)) x) (node_pieces (view B (suc d)) (renew (λ s. s) g n c x).node)
  unfolding renew node_pieces
  pieces_time d g n c (file z cs) = alike_refl P B (cell_pieces cs)
  pieces_time d g n c (device z cs) = alike_refl P B (cell_pieces cs)
  pieces_time d g n c (sub x) = alike_refl P B ((view B (suc d)).pieces x)

  -- an entry above it
  pub entry_above : (d : ℕ) (f : Tree d → Tree d) (g : ℕ → ℕ) → ((t : Tree d) → blocks_at (f t) ≡ blocks_at t) → ((t : Tree d) → sum (f t) ≡ sum t)
      → ((c : ℕ) → g c ≡ c) → (n : Name) (c : ℕ) (x : Node (Tree d))
      → entry_bytes (view B (suc d)) (record { name = n; time = c; node = x }) ≡ entry_bytes (view B (suc d)) (renew f g n c x)
  unfolding renew entry_bytes view address_of size_of kind_of
  entry_above d f g a u q n c (file z cs) = refl
  entry_above d f g a u q n c (device z cs) = refl
  entry_above d f g a u q n c (sub x) = rw (a x, u x, q c)

  pieces_above : (d : ℕ) (f : Tree d → Tree d) (g : ℕ → ℕ) (o : Tree d → Option ℕ)
      → ((t : Tree d) → ((j : ℕ) → InTime (o t) j → P j) → Alike P B (render B d t) (render B d (f t)))
      → (n : Name) (c : ℕ) (x : Node (Tree d)) → ((j : ℕ) → InTime (inside o x) j → P j)
      → Alike P B (node_pieces (view B (suc d)) x) (node_pieces (view B (suc d)) (renew f g n c x).node)
  unfolding renew node_pieces view inside render
  pieces_above d f g o r n c (file z cs) s = alike_refl P B (cell_pieces cs)
  pieces_above d f g o r n c (device z cs) s = alike_refl P B (cell_pieces cs)
  pieces_above d f g o r n c (sub x) s = r x s

  pub alike_edit : (d : ℕ) (p : List Name) (g : ℕ → ℕ) (t : Tree d) → ((j : ℕ) → InTime (own_time B d p t) j → P j)
      → Alike P B (render B d t) (render B d (edit d p g (λ e s. s) t))
  unfolding edit own_time render InTime at_end renewed
  alike_edit zero [] g t s = alike_refl P B (render B zero t)
  alike_edit (suc d) [] g t s = alike_refl P B (render B (suc d) t)
  alike_edit zero (n ∷ p) g t s = alike_refl P B (render B zero t)
  alike_edit (suc d) (n ∷ []) g t s =
      alike_dir P B (view B (suc d)) n _ t
      (λ e l. (near_time d g (place_of B n t) (λ j a b. s j (omega arith, omega arith)) e.name e.time e.node, pieces_time d g e.name e.time e.node))
  alike_edit (suc d) (n ∷ m ∷ p) g t s =
      alike_dir P B (view B (suc d)) n _ t
      (λ e l. (
        near_eq P _ _ _ (entry_above d (edit d (m ∷ p) g (λ e s. s)) (λ c. c) (edit_at d (m ∷ p) g) (edit-sum d (m ∷ p) g) (λ c. refl) e.name e.time e.node),
        pieces_above d (edit d (m ∷ p) g (λ e s. s)) (λ c. c) (own_time B d (m ∷ p)) (λ y q. alike_edit d (m ∷ p) g y q) e.name e.time e.node
            (λ j q. s j (subst (λ (o : Option ℕ). InTime o j) (sym (then_some (λ x. inside (own_time B d (m ∷ p)) x.node) l)) q)),
      ))
