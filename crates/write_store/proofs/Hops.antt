-- Along a chain: hops, where they stay, and the chain of a file's blocks.
use mathlib.Core.Path.{◌≡◌, refl, sym, ap, ◌∙◌, subst}
use mathlib.Core.List.{List, [], ◌∷◌, ◌++◌}
use Prim.Native.Nat.{ℕ, zero, suc, ◌+◌, ◌-◌, ◌^◌, ◌≤◌, ◌<◌}
use native.Mathlib.Omega.{arith}
use lib.ListN.{length}
use Rattle.block.specs.Block.{next}
use Rattle.model.specs.Tree.{Cell}
use Rattle.model.specs.Render.{cells_at, cell_pieces, count, ShowsAll}
use Rattle.model.specs.Geometry.{Geo, block_size, data_at, Sound}
use Rattle.model.specs.Calls.{places}
use Rattle.model.proofs.Areas.{few}
use Rattle.model.proofs.Counts.{count_same, count_cons}
use Rattle.model.proofs.Entries.{next_shown}
use Rattle.write_store.specs.Write.{hop, Along}

-- ---- hops

pub hop-none : (B : ℕ) (I : List ℕ) (a : ℕ) → hop B I 0 a ≡ a
unfolding hop
hop-none B I a = refl

pub hop-more : (B : ℕ) (I : List ℕ) (k a : ℕ) → hop B I (suc k) a ≡ hop B I k (next B I a)
unfolding hop
hop-more B I k a = refl

hop-add : (B : ℕ) (I : List ℕ) (k i a : ℕ) → hop B I (k + i) a ≡ hop B I i (hop B I k a)
unfolding hop
hop-add B I zero i a = ap (λ (x : ℕ). hop B I x a) (let e : 0 + i ≡ i = omega arith in e)
hop-add B I (suc k) i a = ap (λ (x : ℕ). hop B I x a) (let e : suc k + i ≡ suc (k + i) = omega arith in e) ∙ hop-add B I k i (next B I a)

-- every block of the data has the next address that it had
abbrev pub SameNext : Geo → List ℕ → List ℕ → Type 0
SameNext g I J = (b : ℕ) → data_at g ≤ b → b < g.n → next (block_size g) J b ≡ next (block_size g) I b

along_step : (g : Geo) (I : List ℕ) (a k : ℕ) → data_at g ≤ a → a < g.n → Along g I (next (block_size g) I a) k → Along g I a (suc k)
along_step g I a k p q h = record { at = go }
  where
    go : (i : ℕ) → i < suc k → (data_at g ≤ hop (block_size g) I i a) × (hop (block_size g) I i a < g.n)
    go zero l = rw (hop-none (block_size g) I a) (p, q)
    go (suc i) l = rw (hop-more (block_size g) I i a) (h.at i (omega arith))

module _ (g : Geo) (I : List ℕ) where
  -- the first block of those that a walk may pass
  pub along_here : (a k : ℕ) → Along g I a k → 0 < k → (data_at g ≤ a) × (a < g.n)
  unfolding hop
  along_here a k h l = h.at 0 l

  pub along_next : (a k : ℕ) → Along g I a (suc k) → Along g I (next (block_size g) I a) k
  unfolding hop
  along_next a k h = record { at = λ i l. h.at (suc i) (omega arith) }

  pub along_less : (a k m : ℕ) → m ≤ k → Along g I a k → Along g I a m
  along_less a k m l h = record { at = λ i q. h.at i (omega arith) }

  along_none : (a : ℕ) → Along g I a 0
  along_none a = record { at = λ i l. absurd (omega arith) }

  -- what is left of it after k hops
  pub along_drop : (a m k : ℕ) → k ≤ m → Along g I a m → Along g I (hop (block_size g) I k a) (m - k)
  along_drop a m k l h = record { at = λ i q. rw (hop-add (block_size g) I k i a) at (h.at (k + i) (omega arith)) }

  pub along_kept : (J : List ℕ) → SameNext g I J → (k a : ℕ) → Along g I a k → Along g J a k
  along_kept J s zero a h = record { at = λ i l. absurd (omega arith) }
  along_kept J s (suc k) a h =
      let p = along_here a (suc k) h (omega arith) in
      again p (subst (λ (x : ℕ). Along g J x k) (sym (s a p.0 p.1)) (along_kept J s k (next (block_size g) I a) (along_next a k h)))
    where
      again : (data_at g ≤ a) × (a < g.n) → Along g J (next (block_size g) J a) k → Along g J a (suc k)
      again p r = along_step g J a k p.0 p.1 r

-- ---- the blocks of a file

module _ (g : Geo) (I : List ℕ) (sound : Sound g (length I)) where
  -- every block of these is in D..n-1
  abbrev pub InArea : List ℕ → Type 0
  InArea xs = (i : ℕ) → 1 ≤ count i xs → (data_at g ≤ i) × (i < g.n)

  area_head : (c : Cell) (cs : List Cell) → InArea (places (c ∷ cs)) → (data_at g ≤ c.at) × (c.at < g.n)
  unfolding places
  area_head c cs r = r c.at (omega (arith, count_same c.at c.at (places cs) refl))

  area_tail : (c : Cell) (cs : List Cell) → InArea (places (c ∷ cs)) → InArea (places cs)
  unfolding places
  area_tail c cs r i h = r i (omega (arith, count_cons i c.at (places cs)))

  -- an address of four bytes
  starts_small : (cs : List Cell) → InArea (places cs) → cells_at cs < 2 ^ 32
  unfolding cells_at
  starts_small [] r = omega arith
  starts_small (c ∷ cs) r = omega (arith, (area_head c cs r).1, few g (length I) sound)

  pub next-cell : (c : Cell) (cs : List Cell) → InArea (places (c ∷ cs)) → ShowsAll (block_size g) I (cell_pieces (c ∷ cs)) → next (block_size g) I c.at ≡ cells_at cs
  unfolding cell_pieces
  next-cell c cs r s = next_shown (block_size g) I c.at (cells_at cs) c.body (starts_small cs (area_tail c cs r)) s.0

  cells_tail : (c : Cell) (cs : List Cell) → ShowsAll (block_size g) I (cell_pieces (c ∷ cs)) → ShowsAll (block_size g) I (cell_pieces cs)
  unfolding cell_pieces
  cells_tail c cs s = s.1

  -- As many hops as there are blocks before them lead to the later ones,
  pub hop_cells : (xs ys : List Cell) → InArea (places (xs ++ ys)) → ShowsAll (block_size g) I (cell_pieces (xs ++ ys)) → hop (block_size g) I (length xs) (cells_at (xs ++ ys)) ≡ cells_at ys
  unfolding hop cells_at
  hop_cells [] ys r s = refl
  hop_cells (x ∷ xs) ys r s =
      ap (hop (block_size g) I (length xs)) (next-cell x (xs ++ ys) r s) ∙ hop_cells xs ys (area_tail x (xs ++ ys) r) (cells_tail x (xs ++ ys) s)

  -- and none of them leaves the data.
  pub along_cells : (cs : List Cell) → InArea (places cs) → ShowsAll (block_size g) I (cell_pieces cs) → Along g I (cells_at cs) (length cs)
  unfolding cells_at
  along_cells [] r s = along_none g I 0
  along_cells (c ∷ cs) r s =
      let p = area_head c cs r in
      along_step g I c.at (length cs) p.0 p.1
      (subst (λ (x : ℕ). Along g I x (length cs)) (sym (next-cell c cs r s)) (along_cells cs (area_tail c cs r) (cells_tail c cs s)))
