-- What an edit at a path does to the pieces: those of the directory are replaced, one block is renewed in one entry, and all others stay.
use mathlib.Core.Path.{◌≡◌, refl, sym, ap, ◌∙◌, subst}
use mathlib.Core.Bool.{true, false}
use mathlib.Core.Logic.{◌⊎◌, inl, inr}
use mathlib.Core.Option.{Option, none, some}
use mathlib.Core.List.{List, [], ◌∷◌, ◌++◌, append_assoc}
use Prim.Native.Nat.{ℕ, zero, suc, ◌+◌, ◌-◌, ◌*◌}
use native.Mathlib.Omega.{arith}
use lib.ListN.{length}
use Rattle.wire.specs.Be.{bytes}
use Rattle.wire.proofs.Picks.{either, pick_true, pick_false}
use Rattle.model.specs.Tree.{Name, Node, file, device, sub, Entry, Block, Tree, first, on_first, then, called, holds, lookup, weight, used, sum, fill, change, Edit, renew, renewed, at_end, edit, inside, Some, find}
use Rattle.model.specs.Render.{Piece, View, blocks_at, padded, entry_bytes, entries_bytes, node_pieces, entry_pieces, dir_pieces, view, render, offset, place_of, own_time}
use Rattle.model.proofs.Alike.{change_at, change-sum, entry_above}
use Rattle.model.proofs.Edits.{renewed_name, find-sub}
use Rattle.model.proofs.Lists.{then_some, not_some, first_here, first_there, on_first_here, on_first_there}
use Rattle.model.proofs.Full.{length_entries}

-- ---- the place of an entry in a list of entries, and of its block in a directory

pub record Spot {X : Type 0} (n : Name) (h : Entry X → Entry X) (es : List (Entry X)) (e : Entry X) : Type 0 where
  pub left : List (Entry X)
  pub right : List (Entry X)
  pub is : es ≡ left ++ (e ∷ right)
  pub becomes : on_first (called n) h es ≡ left ++ (h e ∷ right)
  pub place : offset n es ≡ used left

spot : {X : Type 0} (n : Name) (h : Entry X → Entry X) (es : List (Entry X)) (e : Entry X) → first (called n) es ≡ some e → Spot n h es e
unfolding first offset used
spot n h [] e f = absurd (not_some refl f)
spot {X} n h (x ∷ es) e f = go (either (called n x)) (spot n h es e)
  where
    go : (called n x ≡ true) ⊎ (called n x ≡ false) → (first (called n) es ≡ some e → Spot n h es e) → Spot n h (x ∷ es) e
    go (inl c) r =
        let both : some x ≡ some e = sym (first_here (called n) x es c) ∙ f in
        let k : x ≡ e = cc in
        record {
          left = [];
          right = es;
          is = ap (λ (z : Entry X). z ∷ es) k;
          becomes = on_first_here (called n) x es c h ∙ ap (λ (z : Entry X). h z ∷ es) k;
          place = pick_true 0 (weight x + offset n es) c;
        }
    go (inr c) r =
        let s = r (sym (first_there (called n) x es c) ∙ f) in
        record {
          left = x ∷ s.left;
          right = s.right;
          is = ap (λ (l : List (Entry X)). x ∷ l) s.is;
          becomes = on_first_there (called n) x es c h ∙ ap (λ (l : List (Entry X)). x ∷ l) s.becomes;
          place = pick_false 0 (weight x + offset n es) c ∙ ap (λ (z : ℕ). weight x + z) s.place;
        }

pub record Site {X : Type 0} (B : ℕ) (n : Name) (h : Entry X → Entry X) (bs : List (Block X)) (e : Entry X) : Type 0 where
  pub earlier : List (Block X)
  pub at : ℕ
  pub left : List (Entry X)
  pub right : List (Entry X)
  pub later : List (Block X)
  pub is : bs ≡ earlier ++ (record { at = at; entries = left ++ (e ∷ right) } ∷ later)
  pub becomes : change n h bs ≡ earlier ++ (record { at = at; entries = left ++ (h e ∷ right) } ∷ later)
  pub place : place_of B n bs ≡ B * at + 4 + used left

pub site : {X : Type 0} (B : ℕ) (n : Name) (h : Entry X → Entry X) (bs : List (Block X)) (e : Entry X) → lookup n bs ≡ some e → Site B n h bs e
unfolding lookup first then change place_of
site B n h [] e l = absurd (not_some refl l)
site {X} B n h (b ∷ bs) e l = go (either (holds n b)) (site B n h bs e)
  where
    block : ℕ → List (Entry X) → Block X
    block a es = record { at = a; entries = es }

    go : (holds n b ≡ true) ⊎ (holds n b ≡ false) → (lookup n bs ≡ some e → Site B n h bs e) → Site B n h (b ∷ bs) e
    go (inl c) r =
        let s = spot n h b.entries e (sym (then_some (λ x. first (called n) x.entries) (first_here (holds n) b bs c)) ∙ l) in
        record {
          earlier = [];
          at = b.at;
          left = s.left;
          right = s.right;
          later = bs;
          is = ap (λ (es : List (Entry X)). block b.at es ∷ bs) s.is;
          becomes = on_first_here (holds n) b bs c (fill (on_first (called n) h)) ∙ ap (λ (es : List (Entry X)). block b.at es ∷ bs) s.becomes;
          place = pick_true (B * b.at + 4 + offset n b.entries) (place_of B n bs) c ∙ ap (λ (z : ℕ). B * b.at + 4 + z) s.place;
        }
    go (inr c) r =
        let s = r (sym (ap (λ (o : Option (Block X)). then o (λ x. first (called n) x.entries)) (first_there (holds n) b bs c)) ∙ l) in
        record {
          earlier = b ∷ s.earlier;
          at = s.at;
          left = s.left;
          right = s.right;
          later = s.later;
          is = ap (λ (z : List (Block X)). b ∷ z) s.is;
          becomes = on_first_there (holds n) b bs c (fill (on_first (called n) h)) ∙ ap (λ (z : List (Block X)). b ∷ z) s.becomes;
          place = pick_false (B * b.at + 4 + offset n b.entries) (place_of B n bs) c ∙ s.place;
        }

-- ---- pieces of a directory that goes on

piece : ℕ → List ℕ → Piece
piece a l = record { at = a; full = l }

unfoldable pub block_full : {X : Type 0} → ℕ → View X → ℕ → List (Entry X) → List ℕ
block_full B v next es = bytes 4 next ++ padded (B - 4) (entries_bytes v es)

-- a directory's first blocks, with the address z after the last of them
unfoldable pub at_or : {X : Type 0} → ℕ → List (Block X) → ℕ
at_or z [] = z
at_or z (c ∷ cs) = c.at

unfoldable pub up_to : {X : Type 0} → ℕ → View X → ℕ → List (Block X) → List Piece
up_to B v z [] = []
up_to B v z (b ∷ bs) = record { at = b.at; full = block_full B v (at_or z bs) b.entries } ∷ (entry_pieces v b.entries ++ up_to B v z bs)

module _ {X : Type 0} (B : ℕ) (v : View X) where
  at_split : (xs : List (Block X)) (b : Block X) (ys : List (Block X)) → blocks_at (xs ++ (b ∷ ys)) ≡ at_or b.at xs
  unfolding blocks_at at_or
  at_split [] b ys = refl
  at_split (x ∷ xs) b ys = refl

  pub dir_split : (xs : List (Block X)) (b : Block X) (ys : List (Block X)) → dir_pieces B v (xs ++ (b ∷ ys)) ≡ up_to B v b.at xs ++ dir_pieces B v (b ∷ ys)
  unfolding dir_pieces up_to block_full
  dir_split [] b ys = refl
  dir_split (x ∷ xs) b ys = rw (at_split xs b ys, dir_split xs b ys, append_assoc)

  pub pieces_both : (l r : List (Entry X)) → entry_pieces v (l ++ r) ≡ entry_pieces v l ++ entry_pieces v r
  unfolding entry_pieces
  pieces_both [] r = refl
  pieces_both (x ∷ l) r = rw (pieces_both l r, append_assoc)

  pub entries_split : (l : List (Entry X)) (e : Entry X) (r : List (Entry X)) → entry_pieces v (l ++ (e ∷ r)) ≡ entry_pieces v l ++ (node_pieces v e.node ++ entry_pieces v r)
  unfolding entry_pieces
  entries_split l e r = unfold entry_pieces in pieces_both l (e ∷ r)

  pub bytes_both : (l r : List (Entry X)) → entries_bytes v (l ++ r) ≡ entries_bytes v l ++ entries_bytes v r
  unfolding entries_bytes
  bytes_both [] r = refl
  bytes_both (x ∷ l) r = rw (bytes_both l r, append_assoc)

  pub bytes_split : (l : List (Entry X)) (e : Entry X) (r : List (Entry X)) → entries_bytes v (l ++ (e ∷ r)) ≡ entries_bytes v l ++ (entry_bytes v e ++ entries_bytes v r)
  unfolding entries_bytes
  bytes_split l e r = unfold entries_bytes in bytes_both l (e ∷ r)

-- The pieces xs become ys: us become vs, and in one block the entry E, which begins at byte `place` of the image, becomes E'.
pub record Cut (B : ℕ) (xs ys us vs : List Piece) (place : ℕ) (E E' : List ℕ) : Type 0 where
  pub before : List Piece
  pub between : List Piece
  pub after : List Piece
  pub at : ℕ
  pub next : ℕ
  pub low : List ℕ
  pub high : List ℕ
  pub old : xs ≡ before ++ (record { at = at; full = bytes 4 next ++ padded (B - 4) (low ++ (E ++ high)) } ∷ (between ++ (us ++ after)))
  pub new : ys ≡ before ++ (record { at = at; full = bytes 4 next ++ padded (B - 4) (low ++ (E' ++ high)) } ∷ (between ++ (vs ++ after)))
  pub stands : place ≡ B * at + 4 + length low

-- a cut of a part is a cut of the whole
pub cut_in : (B : ℕ) (xs ys us vs : List Piece) (q : ℕ) (E E' : List ℕ) (A C : List Piece) → Cut B xs ys us vs q E E' → Cut B (A ++ (xs ++ C)) (A ++ (ys ++ C)) us vs q E E'
cut_in B xs ys us vs q E E' A C c = record {
  before = A ++ c.before;
  between = c.between;
  after = c.after ++ C;
  at = c.at;
  next = c.next;
  low = c.low;
  high = c.high;
  old = ap (λ (z : List Piece). A ++ (z ++ C)) c.old ∙ simp append_assoc;
  new = ap (λ (z : List Piece). A ++ (z ++ C)) c.new ∙ simp append_assoc;
  stands = c.stands;
}

module _ {X : Type 0} (B : ℕ) (v : View X) where
  dir_at : (xs : List (Block X)) (a : ℕ) (l : List (Entry X)) (e : Entry X) (r : List (Entry X)) (ys : List (Block X))
      → dir_pieces B v (xs ++ (record { at = a; entries = l ++ (e ∷ r) } ∷ ys))
      ≡ up_to B v a xs ++ (record { at = a; full = bytes 4 (blocks_at ys) ++ padded (B - 4) (entries_bytes v l ++ (entry_bytes v e ++ entries_bytes v r)) }
      ∷ (entry_pieces v l ++ (node_pieces v e.node ++ (entry_pieces v r ++ dir_pieces B v ys))))
  unfolding dir_pieces
  dir_at xs a l e r ys =
      dir_split B v xs (record { at = a; entries = l ++ (e ∷ r) }) ys
      ∙ ap (λ (z : List Piece). up_to B v a xs ++ z) (rw (bytes_split B v l e r, entries_split B v l e r) (simp append_assoc))

  pub cut_here : (n : Name) (h : Entry X → Entry X) (bs : List (Block X)) (e : Entry X) → lookup n bs ≡ some e
      → Cut B (dir_pieces B v bs) (dir_pieces B v (change n h bs)) (node_pieces v e.node) (node_pieces v (h e).node) (place_of B n bs) (entry_bytes v e) (entry_bytes v (h e))
  cut_here n h bs e l =
      let s = site B n h bs e l in
      record {
        before = up_to B v s.at s.earlier;
        between = entry_pieces v s.left;
        after = entry_pieces v s.right ++ dir_pieces B v s.later;
        at = s.at;
        next = blocks_at s.later;
        low = entries_bytes v s.left;
        high = entries_bytes v s.right;
        old = ap (dir_pieces B v) s.is ∙ dir_at s.earlier s.at s.left e s.right s.later;
        new = ap (dir_pieces B v) s.becomes ∙ dir_at s.earlier s.at s.left (h e) s.right s.later;
        stands = s.place ∙ omega (arith, length_entries v s.left);
      }

-- An edit at a path below the root: the directory's pieces are replaced, and its own entry is renewed.
pub record OwnCut (B d : ℕ) (p : List Name) (g : ℕ → ℕ) (f : Edit) (t : Tree d) (s : Some) : Type 0 where
  pub name : Name
  pub time : ℕ
  pub place : ℕ
  pub own : own_time B d p t ≡ some (place + 9)
  pub cut : Cut B (render B d t) (render B d (edit d p g f t)) (render B s.0 s.1) (render B s.0 (f s.0 s.1)) place
      (entry_bytes (view B (suc s.0)) (record { name = name; time = time; node = sub s.1 }))
      (entry_bytes (view B (suc s.0)) (record { name = name; time = g time; node = sub (f s.0 s.1) }))

pub cut_to : (B : ℕ) (xs ys xs' ys' us vs : List Piece) (q : ℕ) (E E' : List ℕ) → xs ≡ xs' → ys ≡ ys' → Cut B xs' ys' us vs q E E' → Cut B xs ys us vs q E E'
cut_to B xs ys xs' ys' us vs q E E' a b c =
    subst (λ (z : List Piece). Cut B z ys us vs q E E') (sym a) (subst (λ (z : List Piece). Cut B xs' z us vs q E E') (sym b) c)

pub edit_below_at : (d : ℕ) (m : Name) (p : List Name) (g : ℕ → ℕ) (f : Edit) (t : Tree d) → blocks_at (edit d (m ∷ p) g f t) ≡ blocks_at t
unfolding edit
edit_below_at zero m p g f t = refl
edit_below_at (suc d) m p g f t = change_at m _ t

edit_below_sum : (d : ℕ) (m : Name) (p : List Name) (g : ℕ → ℕ) (f : Edit) (t : Tree d) → sum (edit d (m ∷ p) g f t) ≡ sum t
unfolding edit
edit_below_sum zero m p g f t = refl
edit_below_sum (suc d) m p g f t = change-sum m _ (renewed_name _ _) t

-- on the way down, and at the end of the path
module _ (B d : ℕ) (n : Name) (g : ℕ → ℕ) (f : Edit) (t : Tree (suc d)) (e : Entry (Tree d)) (l : lookup n t ≡ some e) where
  cut_last : (x : Tree d) → e.node ≡ sub x → OwnCut B (suc d) (n ∷ []) g f t (d, x)
  unfolding edit own_time render renewed renew at_end node_pieces view
  cut_last x k = record {
    name = e.name;
    time = e.time;
    place = place_of B n t;
    own = refl;
    cut = subst
        (λ (z : Node (Tree d)). Cut B (dir_pieces B (view B (suc d)) t) (dir_pieces B (view B (suc d)) (change n (renewed (edit d [] g f) (at_end [] g)) t))
        (node_pieces (view B (suc d)) z) (node_pieces (view B (suc d)) (renew (f d) g e.name e.time z).node) (place_of B n t)
        (entry_bytes (view B (suc d)) (record { name = e.name; time = e.time; node = z })) (entry_bytes (view B (suc d)) (renew (f d) g e.name e.time z)))
        k (cut_here B (view B (suc d)) n (renewed (edit d [] g f) (at_end [] g)) t e l);
  }

  cut_down : (m : Name) (p : List Name) (x : Tree d) (s : Some) → e.node ≡ sub x → OwnCut B d (m ∷ p) g f x s → OwnCut B (suc d) (n ∷ m ∷ p) g f t s
  unfolding edit own_time render renewed renew at_end node_pieces view inside
  cut_down m p x s k o = record {
    name = o.name;
    time = o.time;
    place = o.place;
    own = then_some (λ (y : Entry (Tree d)). inside (own_time B d (m ∷ p)) y.node) l ∙ ap (inside (own_time B d (m ∷ p))) k ∙ o.own;
    cut = whole (subst
        (λ (z : Node (Tree d)). Cut B (dir_pieces B (view B (suc d)) t) (dir_pieces B (view B (suc d)) (change n (renewed (edit d (m ∷ p) g f) (at_end (m ∷ p) g)) t))
        (node_pieces (view B (suc d)) z) (node_pieces (view B (suc d)) (renew (edit d (m ∷ p) g f) (λ c. c) e.name e.time z).node) (place_of B n t)
        (entry_bytes (view B (suc d)) (record { name = e.name; time = e.time; node = z })) (entry_bytes (view B (suc d)) (renew (edit d (m ∷ p) g f) (λ c. c) e.name e.time z)))
        k (cut_here B (view B (suc d)) n (renewed (edit d (m ∷ p) g f) (at_end (m ∷ p) g)) t e l));
  }
    where
      E : List ℕ
      E = entry_bytes (view B (suc d)) (record { name = e.name; time = e.time; node = sub x })

      E' : List ℕ
      E' = entry_bytes (view B (suc d)) (renew (edit d (m ∷ p) g f) (λ c. c) e.name e.time (sub x))

      same_entry : E ≡ E'
      same_entry = entry_above (λ _. ⊥) B d (edit d (m ∷ p) g f) (λ c. c) (edit_below_at d m p g f) (edit_below_sum d m p g f) (λ c. refl) e.name e.time (sub x)

      whole : Cut B (dir_pieces B (view B (suc d)) t) (dir_pieces B (view B (suc d)) (change n (renewed (edit d (m ∷ p) g f) (at_end (m ∷ p) g)) t))
          (render B d x) (render B d (edit d (m ∷ p) g f x)) (place_of B n t) E E'
          → Cut B (dir_pieces B (view B (suc d)) t) (dir_pieces B (view B (suc d)) (change n (renewed (edit d (m ∷ p) g f) (at_end (m ∷ p) g)) t))
          (render B s.0 s.1) (render B s.0 (f s.0 s.1)) o.place
          (entry_bytes (view B (suc s.0)) (record { name = o.name; time = o.time; node = sub s.1 }))
          (entry_bytes (view B (suc s.0)) (record { name = o.name; time = g o.time; node = sub (f s.0 s.1) }))
      whole c =
          let P : List ℕ → Piece = λ z. record { at = c.at; full = bytes 4 c.next ++ padded (B - 4) (c.low ++ (z ++ c.high)) } in
          let A : List Piece = c.before ++ (P E ∷ c.between) in
          cut_to B _ _ _ _ _ _ _ _ _
          (c.old ∙ sym (append_assoc c.before (P E ∷ c.between) (render B d x ++ c.after)))
          (c.new ∙ ap (λ (z : List ℕ). c.before ++ (P z ∷ (c.between ++ (render B d (edit d (m ∷ p) g f x) ++ c.after)))) (sym same_entry)
          ∙ sym (append_assoc c.before (P E ∷ c.between) (render B d (edit d (m ∷ p) g f x) ++ c.after)))
          (cut_in B _ _ _ _ _ _ _ A c.after o.cut)

pub sub_of_lem : (d : ℕ) (o : Tree d → Option Some) (s : Some) (x : Node (Tree d)) → inside o x ≡ some s → (t : Tree d) × (x ≡ sub t) × (o t ≡ some s)
unfolding inside
sub_of_lem d o s (file z c) i = absurd (not_some refl i)
sub_of_lem d o s (device z c) i = absurd (not_some refl i)
sub_of_lem d o s (sub t) i = (t, refl, i)

pub found : (d : ℕ) (n : Name) (p : List Name) (t : Tree (suc d)) (s : Some) → find (suc d) (n ∷ p) t ≡ some s
    → (e : Entry (Tree d)) × (lookup n t ≡ some e) × (inside (find d p) e.node ≡ some s)
unfolding find then
found d n p t s f = go (lookup n t) refl
  where
    go : (o : Option (Entry (Tree d))) → lookup n t ≡ o → (e : Entry (Tree d)) × (lookup n t ≡ some e) × (inside (find d p) e.node ≡ some s)
    go none l = absurd (not_some (ap (λ (o : Option (Entry (Tree d))). then o (λ x. inside (find d p) x.node)) l) f)
    go (some e) l = (e, l, find-sub d n p t s e l f)

-- Every edit at a path below the root.
pub own_cut : (B d : ℕ) (n : Name) (p : List Name) (g : ℕ → ℕ) (f : Edit) (t : Tree d) (s : Some) → find d (n ∷ p) t ≡ some s → OwnCut B d (n ∷ p) g f t s
unfolding find
own_cut B zero n p g f t s h = absurd (not_some refl h)
own_cut B (suc d) n [] g f t s h =
    let z = found d n [] t s h in
    let y = sub_of_lem d (find d []) s z.0.node z.2 in
    let k : (d, y.0) ≡ s = let q = y.2 in cc in
    subst (OwnCut B (suc d) (n ∷ []) g f t) k (cut_last B d n g f t z.0 z.1 y.0 y.1)
own_cut B (suc d) n (m ∷ p) g f t s h =
    let z = found d n (m ∷ p) t s h in
    let y = sub_of_lem d (find d (m ∷ p)) s z.0.node z.2 in
    cut_down B d n g f t z.0 z.1 m p y.0 s y.1 (own_cut B d m p g f y.0 s y.2)
