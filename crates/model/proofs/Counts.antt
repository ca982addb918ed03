-- How often a block stands among the pieces of a tree: the laws of `count`, `ats` and `check_bitmap`, and the number of set bits by them.
use mathlib.Core.Path.{◌≡◌, refl, ap, ◌∙◌}
use mathlib.Core.List.{List, [], ◌∷◌, ◌++◌}
use Prim.Native.Nat.{ℕ, zero, suc, ◌+◌, ◌≤◌, ◌<◌}
use native.Mathlib.Omega.{arith}
use native.Mathlib.Decide.{ℕ_discrete}
use lib.ListN.{length, length-append}
use borrow.Author.Tests.{eq-eqb, ne_eqb}
use Rattle.wire.proofs.Picks.{pick_true, pick_false}
use Rattle.bits.specs.Bit.{bit, ones}
use Rattle.model.specs.Tree.{Cell, Entry, Block}
use Rattle.model.specs.Render.{Piece, View, cell_pieces, node_pieces, entry_pieces, dir_pieces, ats, count}
use Rattle.model.specs.Calls.{places}

pub count_same : (i b : ℕ) (bs : List ℕ) → i ≡ b → count i (b ∷ bs) ≡ suc (count i bs)
unfolding count
count_same i b bs e = omega (arith, pick_true {A = ℕ} 1 0 (eq-eqb i b e))

pub count_other : (i b : ℕ) (bs : List ℕ) → (i ≡ b → ⊥) → count i (b ∷ bs) ≡ count i bs
unfolding count
count_other i b bs e = omega (arith, pick_false {A = ℕ} 1 0 (ne_eqb i b e))

pub count_none : (i : ℕ) → count i [] ≡ 0
unfolding count
count_none i = refl

-- in a list of one
pub count_self : (a : ℕ) → count a (a ∷ []) ≡ 1
count_self a = count_same a a [] refl ∙ ap suc (count_none a)

pub count_is : (i a : ℕ) → 1 ≤ count i (a ∷ []) → i ≡ a
count_is i a h = go (ℕ_discrete i a)
  where
    go : Dec (i ≡ a) → i ≡ a
    go (yes e) = e
    go (no e) = absurd (omega (arith, count_other i a [] e, count_none i))

pub count_cons : (i b : ℕ) (bs : List ℕ) → count i (b ∷ bs) ≡ count i (b ∷ []) + count i bs
unfolding count
count_cons i b bs = omega arith

pub count_append : (i : ℕ) (xs ys : List ℕ) → count i (xs ++ ys) ≡ count i xs + count i ys
unfolding count
count_append i [] ys = omega arith
count_append i (x ∷ xs) ys = omega (arith, count_append i xs ys)

pub ats-append : (xs ys : List Piece) → ats (xs ++ ys) ≡ ats xs ++ ats ys
unfolding ats
ats-append [] ys = refl
ats-append (x ∷ xs) ys = ap (λ (l : List ℕ). x.at ∷ l) (ats-append xs ys)

pub length-ats : (xs ys : List Piece) → length (ats (xs ++ ys)) ≡ length (ats xs) + length (ats ys)
length-ats xs ys = ap length (ats-append xs ys) ∙ length-append (ats xs) (ats ys)

-- the pieces of a chain stand at its places, one to a block
pub ats_cells : (cs : List Cell) → ats (cell_pieces cs) ≡ places cs
unfolding ats cell_pieces places
ats_cells [] = refl
ats_cells (c ∷ cs) = ap (λ (l : List ℕ). c.at ∷ l) (ats_cells cs)

pub cells_long : (cs : List Cell) → length (ats (cell_pieces cs)) ≡ length cs
unfolding cell_pieces ats
cells_long [] = refl
cells_long (c ∷ cs) = ap suc (cells_long cs)

-- how often block i is in the pieces
unfoldable pub tally : ℕ → List Piece → ℕ
tally i xs = count i (ats xs)

pub tally_append : (i : ℕ) (xs ys : List Piece) → tally i (xs ++ ys) ≡ tally i xs + tally i ys
unfolding tally
tally_append i xs ys = ap (count i) (ats-append xs ys) ∙ count_append i (ats xs) (ats ys)

pub tally_none : (i : ℕ) → tally i [] ≡ 0
unfolding tally ats
tally_none i = count_none i

module _ {X : Type 0} (B : ℕ) (v : View X) (i : ℕ) where
  pub dir_tally : (b : Block X) (bs : List (Block X)) → tally i (dir_pieces B v (b ∷ bs)) ≡ count i (b.at ∷ []) + (tally i (entry_pieces v b.entries) + tally i (dir_pieces B v bs))
  unfolding dir_pieces tally ats
  dir_tally b bs = count_cons i b.at _ ∙ ap (λ (z : ℕ). count i (b.at ∷ []) + z) (tally_append i (entry_pieces v b.entries) (dir_pieces B v bs))

  pub entries_tally : (e : Entry X) (es : List (Entry X)) → tally i (entry_pieces v (e ∷ es)) ≡ tally i (node_pieces v e.node) + tally i (entry_pieces v es)
  unfolding entry_pieces
  entries_tally e es = tally_append i (node_pieces v e.node) (entry_pieces v es)

-- ---- set bits, where each bit is a count

-- how many of l are in the m numbers from D on
among : ℕ → ℕ → List ℕ → ℕ
among D zero l = 0
among D (suc m) l = among D m l + count (D + m) l

among_nil : (D m : ℕ) → among D m [] ≡ 0
unfolding among
among_nil D zero = refl
among_nil D (suc m) = omega (arith, among_nil D m, count_none (D + m))

among_cons : (D m b : ℕ) (l : List ℕ) → among D m (b ∷ l) ≡ among D m (b ∷ []) + among D m l
unfolding among
among_cons D zero b l = refl
among_cons D (suc m) b l = omega (arith, among_cons D m b l, count_cons (D + m) b l)

among_past : (D m b : ℕ) → D + m ≤ b → among D m (b ∷ []) ≡ 0
unfolding among
among_past D zero b h = refl
among_past D (suc m) b h = omega (arith, among_past D m b (omega arith), count_other (D + m) b [] (omega arith), count_none (D + m))

among_one : (D m b : ℕ) → D ≤ b → b < D + m → among D m (b ∷ []) ≡ 1
unfolding among
among_one D zero b h k = absurd (omega arith)
among_one D (suc m) b h k = go (ℕ_discrete (D + m) b) (among_one D m b h)
  where
    go : Dec (D + m ≡ b) → (b < D + m → among D m (b ∷ []) ≡ 1) → among D (suc m) (b ∷ []) ≡ 1
    go (yes e) r = omega (arith, among_past D m b (omega arith), count_same (D + m) b [] e, count_none (D + m))
    go (no e) r = omega (arith, r (omega arith), count_other (D + m) b [] e, count_none (D + m))

among_all : (D m : ℕ) (l : List ℕ) → ((i : ℕ) → 1 ≤ count i l → (D ≤ i) × (i < D + m)) → among D m l ≡ length l
among_all D m [] r = among_nil D m
among_all D m (b ∷ l) r =
    let h = r b (omega (arith, count_same b b l refl)) in
    omega (arith, among_cons D m b l, among_one D m b h.0 h.1, among_all D m l (λ i q. r i (omega (arith, count_cons i b l))))

ones_among : (I : List ℕ) (from D m : ℕ) (l : List ℕ) → ((x : ℕ) → x < m → bit I from x ≡ count (D + x) l) → ones I from m ≡ among D m l
unfolding ones among
ones_among I from D zero l h = refl
ones_among I from D (suc m) l h = omega (arith, ones_among I from D m l (λ x q. h x (omega arith)), h m (omega arith))

-- W5: the number of set bits is the number of blocks that are reached.
pub ones-length : (I : List ℕ) (from D m : ℕ) (l : List ℕ) → ((x : ℕ) → x < m → bit I from x ≡ count (D + x) l)
    → ((i : ℕ) → 1 ≤ count i l → (D ≤ i) × (i < D + m)) → ones I from m ≡ length l
ones-length I from D m l h r = ones_among I from D m l h ∙ among_all D m l r
