-- What a good tree says of its parts: the directory at a path is good, and every piece is a whole block.
use mathlib.Core.Path.{◌≡◌, refl, sym, ap, ◌∙◌, subst}
use mathlib.Core.Bool.{Bool, true, false}
use mathlib.Core.Logic.{◌⊎◌, inl, inr}
use mathlib.Core.Option.{Option, none, some}
use mathlib.Core.List.{List, [], ◌∷◌, ◌++◌, append_assoc}
use Prim.Native.Nat.{ℕ, zero, suc, ◌+◌, ◌-◌, ◌≤◌}
use native.Mathlib.Omega.{arith}
use lib.ListN.{length, length-append, length-replicate, get_or}
use Rattle.wire.specs.Be.{bytes, zeros}
use Rattle.wire.proofs.Numbers.{length_bytes, get_or-zeros}
use Rattle.wire.proofs.Picks.{either}
use Rattle.model.specs.Tree.{Name, Cell, Node, file, device, sub, Entry, Block, Below, Tree, first, then, called, holds, lookup, used, inside, Some, find}
use Rattle.model.specs.Render.{Piece, View, blocks_at, cells_at, padded, entries_bytes, cell_pieces, node_pieces, entry_pieces, dir_pieces, view, render}
use Rattle.model.specs.Volume.{All, GoodCell, GoodNode, GoodEntry, GoodBlock, GoodDir, GoodBelow, GoodTree}
use Rattle.model.proofs.Alike.{length_entry}
use Rattle.model.proofs.Edits.{find-sub}
use Rattle.model.proofs.Lists.{then_some, not_some, all_append, first_here, first_there}

all_first : {A : Type 0} (P : A → Type 0) (q : A → Bool) (l : List A) (x : A) → All P l → first q l ≡ some x → P x
unfolding first
all_first P q [] x a f = absurd (not_some refl f)
all_first {A} P q (y ∷ l) x a f = go (either (q y)) (all_first P q l x a.1)
  where
    go : (q y ≡ true) ⊎ (q y ≡ false) → (first q l ≡ some x → P x) → P x
    go (inl e) r = let both : some y ≡ some x = sym (first_here q y l e) ∙ f in let k : y ≡ x = cc in subst P k a.0
    go (inr e) r = r (sym (first_there q y l e) ∙ f)

module _ {X : Type 0} (B : ℕ) (S : X → Type 0) where
  pub good_lookup : (n : Name) (bs : List (Block X)) (e : Entry X) → GoodDir B S bs → lookup n bs ≡ some e → GoodEntry B S e
  unfolding lookup then
  good_lookup n bs e g l = go (first (holds n) bs) refl
    where
      go : (o : Option (Block X)) → first (holds n) bs ≡ o → GoodEntry B S e
      go none f = absurd (not_some (ap (λ (o : Option (Block X)). then o (λ c. first (called n) c.entries)) f) l)
      go (some b) f =
          all_first (GoodEntry B S) (called n) b.entries e (all_first (GoodBlock B S) (holds n) bs b g.all f).each
          (sym (then_some (λ c. first (called n) c.entries) f) ∙ l)

-- The directory at a path is good.
good_inside : (B d : ℕ) (o : Tree d → Option Some) (s : Some) → ((t : Tree d) → GoodTree B d t → o t ≡ some s → GoodTree B s.0 s.1)
    → (x : Node (Tree d)) → GoodNode B (GoodBelow B (suc d)) x → inside o x ≡ some s → GoodTree B s.0 s.1
unfolding inside GoodBelow
good_inside B d o s r (file z cs) g i = absurd (not_some refl i)
good_inside B d o s r (device z cs) g i = absurd (not_some refl i)
good_inside B d o s r (sub x) g i = r x g i

pub good_find : (B d : ℕ) (p : List Name) (t : Tree d) (s : Some) → GoodTree B d t → find d p t ≡ some s → GoodTree B s.0 s.1
unfolding find then
good_find B zero [] t s g f = let k : (zero, t) ≡ s = cc in subst (λ (x : Some). GoodTree B x.0 x.1) k g
good_find B (suc d) [] t s g f = let k : (suc d, t) ≡ s = cc in subst (λ (x : Some). GoodTree B x.0 x.1) k g
good_find B zero (n ∷ p) t s g f = absurd (not_some refl f)
good_find B (suc d) (n ∷ p) t s g f = go (lookup n t) refl (λ x h i. good_inside B d (find d p) s (λ y a b. good_find B d p y s a b) x h i)
  where
    go : (o : Option (Entry (Tree d))) → lookup n t ≡ o → ((x : Node (Tree d)) → GoodNode B (GoodBelow B (suc d)) x → inside (find d p) x ≡ some s → GoodTree B s.0 s.1) → GoodTree B s.0 s.1
    go none l r = absurd (not_some (ap (λ (o : Option (Entry (Tree d))). then o (λ x. inside (find d p) x.node)) l) f)
    go (some e) l r = r e.node (good_lookup B (GoodBelow B (suc d)) n t e g l).below (find-sub d n p t s e l f)

-- Every piece is a whole block.
abbrev pub Whole : ℕ → Piece → Type 0
Whole B x = length x.full ≡ B

pub length_entries : {X : Type 0} (v : View X) (es : List (Entry X)) → length (entries_bytes v es) ≡ used es
unfolding entries_bytes used
length_entries v [] = refl
length_entries v (e ∷ es) = rw length-append (omega (arith, length_entry v e, length_entries v es))

pub length-padded : (n : ℕ) (l : List ℕ) → length l ≤ n → length (padded n l) ≡ n
unfolding padded
length-padded n l h = rw (length-append, length-replicate) (omega arith)

-- the first part of what is padded, then the rest padded
pub padded-after : (c : ℕ) (l m : List ℕ) → padded c (l ++ m) ≡ l ++ padded (c - length l) m
unfolding padded
padded-after c l m =
    let k : c - (length l + length m) ≡ c - length l - length m = omega arith in
    rw (length-append, k, append_assoc)

pub padded-none : (k : ℕ) → padded k [] ≡ zeros k
unfolding padded
padded-none k = let e : k - 0 ≡ k = omega arith in ap zeros e

-- a block of zeros, as the block of an empty chain shows it
pub zero_block : (B : ℕ) → 4 ≤ B → zeros B ≡ bytes 4 0 ++ zeros (B - 4)
unfolding bytes
zero_block B h = let e : B ≡ suc (suc (suc (suc (B - 4)))) = omega arith in ap zeros e

pub zero_byte : (k i : ℕ) → get_or (bytes 4 0 ++ zeros k) i 0 ≡ 0
zero_byte k i =
    let e : 4 + k - 4 ≡ k = omega arith in
    ap (λ (j : ℕ). get_or (bytes 4 0 ++ zeros j) i 0) (sym e) ∙ ap (λ (l : List ℕ). get_or l i 0) (sym (zero_block (4 + k) (omega arith))) ∙ get_or-zeros (4 + k) i

pub whole_cells : (B : ℕ) → 4 ≤ B → (cs : List Cell) → All (GoodCell B) cs → All (Whole B) (cell_pieces cs)
unfolding cell_pieces
whole_cells B h [] a = tt
whole_cells B h (c ∷ cs) a = (rw length-append (omega (arith, length_bytes 4 (cells_at cs), a.0.whole)), whole_cells B h cs a.1)

module _ {X : Type 0} (B : ℕ) (large : 5 ≤ B) (S : X → Type 0) (v : View X) (below : (x : X) → S x → All (Whole B) (v.pieces x)) where
  whole_node : (x : Node X) → GoodNode B S x → All (Whole B) (node_pieces v x)
  unfolding node_pieces
  whole_node (file z cs) g = whole_cells B (omega arith) cs g.cells
  whole_node (device z cs) g = whole_cells B (omega arith) cs g.cells
  whole_node (sub x) g = below x g

  whole_entries : (es : List (Entry X)) → All (GoodEntry B S) es → All (Whole B) (entry_pieces v es)
  unfolding entry_pieces
  whole_entries [] g = tt
  whole_entries (e ∷ es) g = all_append (Whole B) (node_pieces v e.node) (entry_pieces v es) (whole_node e.node g.0.below) (whole_entries es g.1)

  whole_dir : (bs : List (Block X)) → All (GoodBlock B S) bs → All (Whole B) (dir_pieces B v bs)
  unfolding dir_pieces
  whole_dir [] g = tt
  whole_dir (b ∷ bs) g = (
    rw length-append (omega (arith, length_bytes 4 (blocks_at bs), length-padded (B - 4) (entries_bytes v b.entries) (omega (arith, length_entries v b.entries, g.0.fits)))),
    all_append (Whole B) (entry_pieces v b.entries) (dir_pieces B v bs) (whole_entries b.entries g.0.each) (whole_dir bs g.1),
  )

whole_below : (B : ℕ) → 5 ≤ B → (d : ℕ) (x : Below d) → GoodBelow B d x → All (Whole B) ((view B d).pieces x)
unfolding GoodBelow view
whole_below B h zero x g = absurd g
whole_below B h (suc d) t g = whole_dir B h (GoodBelow B d) (view B d) (λ x s. whole_below B h d x s) t g.all

pub whole_tree : (B : ℕ) → 5 ≤ B → (d : ℕ) (t : Tree d) → GoodTree B d t → All (Whole B) (render B d t)
unfolding render
whole_tree B h d t g = whole_dir B h (GoodBelow B d) (view B d) (whole_below B h d) t g.all
