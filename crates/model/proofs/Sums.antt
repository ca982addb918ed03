-- Every directory's sum fits its four bytes: blocks are distinct and lie in D..n-1.
use mathlib.Core.Path.{◌≡◌, refl, ap}
use mathlib.Core.Option.{some}
use mathlib.Core.List.{List, [], ◌∷◌}
use Prim.Native.Nat.{ℕ, zero, suc, ◌+◌, ◌-◌, ◌*◌, ◌≤◌, ◌<◌}
use native.Mathlib.Nat.{mul-suc, mul-le-mul_left}
use native.Mathlib.Omega.{arith}
use native.Mathlib.Decide.{ℕ_discrete}
use lib.Dec.{eqb}
use lib.ListN.{length}
use borrow.Author.Tests.{eq-eqb, ne_eqb}
use Rattle.wire.proofs.Picks.{pick_true, pick_false}
use Rattle.model.specs.Tree.{Name, Block, Tree, less_first, sum, Some, find}
use Rattle.model.specs.Render.{View, entry_pieces, dir_pieces, ats, count, blocks}
use Rattle.model.specs.Geometry.{Geo, block_size, data_at}
use Rattle.model.specs.Volume.{All, GoodBlock, Laid}
use Rattle.model.proofs.Counts.{length-ats, count_same, tally}
use Rattle.model.proofs.Lists.{less_first_here, less_first_there}
use Rattle.model.proofs.Paths.{sub_in}

-- ---- at most k numbers in a row of k, none twice

-- without its first x
less : ℕ → List ℕ → List ℕ
less x l = less_first (eqb x) l

less_count : (x i : ℕ) (l : List ℕ) → count i l ≤ count i (less x l) + count i (x ∷ [])
unfolding less less_first count
less_count x i [] = omega arith
less_count x i (y ∷ l) = go (ℕ_discrete x y) (less_count x i l)
  where
    go : Dec (x ≡ y) → count i l ≤ count i (less x l) + count i (x ∷ []) → count i (y ∷ l) ≤ count i (less x (y ∷ l)) + count i (x ∷ [])
    go (yes e) r = rw (less_first_here (eqb x) y l (eq-eqb x y e), e) (omega arith)
    go (no e) r = rw (less_first_there (eqb x) y l (ne_eqb x y e)) (omega (arith, r))

less_le : (x i : ℕ) (l : List ℕ) → count i (less x l) ≤ count i l
unfolding less less_first count
less_le x i [] = omega arith
less_le x i (y ∷ l) = go (ℕ_discrete x y) (less_le x i l)
  where
    go : Dec (x ≡ y) → count i (less x l) ≤ count i l → count i (less x (y ∷ l)) ≤ count i (y ∷ l)
    go (yes e) r = rw (less_first_here (eqb x) y l (eq-eqb x y e)) (omega arith)
    go (no e) r = rw (less_first_there (eqb x) y l (ne_eqb x y e)) (omega (arith, r))

-- x is gone, if it was there once
less_gone : (x : ℕ) (l : List ℕ) → count x l ≤ 1 → count x (less x l) ≡ 0
unfolding less less_first count
less_gone x [] h = refl
less_gone x (y ∷ l) h = go (ℕ_discrete x y) (less_gone x l)
  where
    go : Dec (x ≡ y) → (count x l ≤ 1 → count x (less x l) ≡ 0) → count x (less x (y ∷ l)) ≡ 0
    go (yes e) r = rw (less_first_here (eqb x) y l (eq-eqb x y e)) (omega (arith, h, pick_true {A = ℕ} 1 0 (eq-eqb x y e)))
    go (no e) r = rw (less_first_there (eqb x) y l (ne_eqb x y e)) (omega (arith, pick_false {A = ℕ} 1 0 (ne_eqb x y e), r (omega (arith, h))))

less_long : (x : ℕ) (l : List ℕ) → length l ≤ suc (length (less x l))
unfolding less less_first
less_long x [] = omega arith
less_long x (y ∷ l) = go (ℕ_discrete x y) (less_long x l)
  where
    go : Dec (x ≡ y) → length l ≤ suc (length (less x l)) → length (y ∷ l) ≤ suc (length (less x (y ∷ l)))
    go (yes e) r = rw (less_first_here (eqb x) y l (eq-eqb x y e)) (omega arith)
    go (no e) r = rw (less_first_there (eqb x) y l (ne_eqb x y e)) (omega (arith, r))

pub row : (k D : ℕ) (l : List ℕ) → ((i : ℕ) → count i l ≤ 1) → ((i : ℕ) → 1 ≤ count i l → (D ≤ i) × (i < D + k)) → length l ≤ k
row zero D [] o r = omega arith
row zero D (x ∷ l) o r = let a = r x (omega (arith, count_same x x l refl)) in absurd (omega arith)
row (suc k) D l o r =
    let m : length (less (D + k) l) ≤ k = row k D (less (D + k) l) (λ i. omega (arith, less_le (D + k) i l, o i)) (λ i h. inner i h (ℕ_discrete i (D + k))) in
    omega (arith, less_long (D + k) l, m)
  where
    inner : (i : ℕ) → 1 ≤ count i (less (D + k) l) → Dec (i ≡ D + k) → (D ≤ i) × (i < D + k)
    inner i h (yes e) = absurd (omega (arith, h, ap (λ (j : ℕ). count j (less (D + k) l)) e, less_gone (D + k) l (o (D + k))))
    inner i h (no e) = let a = r i (omega (arith, h, less_le (D + k) i l)) in (omega arith, omega arith)

-- ---- a directory's sum by its blocks

pub sum_long : {X : Type 0} (B : ℕ) (S : X → Type 0) (bs : List (Block X)) → All (GoodBlock B S) bs → sum bs ≤ (B - 5) * length bs
unfolding sum
sum_long B S [] a = omega arith
sum_long B S (b ∷ bs) a = omega (arith, sum_long B S bs a.1, a.0.fits, mul-suc (B - 5) (length bs))

-- it has no more blocks of its own than it reaches
pub chain_long : {X : Type 0} (B : ℕ) (v : View X) (bs : List (Block X)) → length bs ≤ length (ats (dir_pieces B v bs))
unfolding dir_pieces ats
chain_long B v [] = omega arith
chain_long B v (b ∷ bs) = omega (arith, chain_long B v bs, length-ats (entry_pieces v b.entries) (dir_pieces B v bs))

pub sum-blocks : {X : Type 0} (B : ℕ) (S : X → Type 0) (v : View X) (bs : List (Block X)) → All (GoodBlock B S) bs → sum bs ≤ (B - 5) * length (ats (dir_pieces B v bs))
sum-blocks B S v bs g = omega (arith, sum_long B S bs g, mul-le-mul_left (B - 5) (chain_long B v bs))

module _ (g : Geo) (I : List ℕ) (d : ℕ) (t : Tree d) (u : ℕ) (l : Laid g I d t u) (p : List Name) (s : Some) (f : find d p t ≡ some s) where
  -- a directory reaches no more blocks than the data area has
  pub laid_few : length (blocks (block_size g) s.0 s.1) ≤ g.n - data_at g
  unfolding tally
  laid_few =
      row (g.n - data_at g) (data_at g) (blocks (block_size g) s.0 s.1)
      (λ i. omega (arith, sub_in (block_size g) i d p t s f, l.once i))
      (λ i h. let r = l.range i (omega (arith, h, sub_in (block_size g) i d p t s f)) in (omega arith, omega arith))
