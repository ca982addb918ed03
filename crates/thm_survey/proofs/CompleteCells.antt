-- The chain of a file or a device that an image shows is the one that the check finds.
use mathlib.Core.Path.{◌≡◌, refl, sym, ap, ◌∙◌, subst}
use mathlib.Core.Option.{Option, some}
use mathlib.Core.List.{List, [], ◌∷◌, ◌++◌}
use Prim.Native.Nat.{ℕ, zero, suc, ◌+◌, ◌-◌, ◌*◌, ◌^◌, ◌≤◌, ◌<◌}
use native.Mathlib.Omega.{arith}
use lib.Dec.{eqb}
use lib.ListN.{length, take, drop}
use borrow.Author.Tests.{eq-eqb, ne_eqb}
use Rattle.wire.specs.Be.{bytes}
use Rattle.wire.specs.Pick.{pick}
use Rattle.wire.proofs.Numbers.{length_bytes}
use Rattle.wire.proofs.Picks.{pick_true, pick_false}
use Rattle.block.specs.Block.{Area, next}
use Rattle.model.specs.Tree.{Cell, then}
use Rattle.model.specs.Render.{cells_at, cell_pieces, ats, count, Shows, ShowsAll}
use Rattle.model.specs.Volume.{All, GoodCell}
use Rattle.model.proofs.Commit.{shows_two}
use Rattle.model.proofs.Counts.{count_cons, tally, tally_none, count_self, cells_long}
use Rattle.model.proofs.Entries.{next_shown}
use Rattle.model.proofs.OneVolume.{shown_part}
use Rattle.model.proofs.Sums.{row}
use Rattle.thm_survey.specs.Survey.{Claimed, with_found, claim, body_at, cells_of, chain_of}
use Rattle.thm_survey.proofs.CompleteLaws.{Free, Yields, free_as, free_right, finds_end, finds_as, finds_same, finds_test, finds_with, finds_claim, one, Ground, ground_inside, address_small}

-- bytes that the image shows are read, so many as they are
read_part : (I : List ℕ) (at k : ℕ) (l : List ℕ) → length l ≡ k → at + k ≤ length I → Shows I at l → take k (drop at I) ≡ l
read_part I at k l e h s = ap (λ (j : ℕ). take j (drop at I)) (sym e) ∙ shown_part I at l (omega arith) s

-- how often block i is in a chain
cells_tally : (i : ℕ) (c : Cell) (cs : List Cell) → tally i (cell_pieces (c ∷ cs)) ≡ one c.at i + tally i (cell_pieces cs)
unfolding tally cell_pieces ats
cells_tally i c cs = count_cons i c.at (ats (cell_pieces cs))

-- the blocks of a chain
abbrev chain : List Cell → ℕ → ℕ
chain cs i = tally i (cell_pieces cs)

module _ {A : Area} {I : List ℕ} (g : Ground A I) where
  -- the address of a chain fits four bytes
  pub cells_small : (cs : List Cell) (seen : List ℕ) → Free A seen (λ i. tally i (cell_pieces cs)) → cells_at cs < 2 ^ 32
  unfolding cells_at
  cells_small [] seen f = omega arith
  cells_small (c ∷ cs) seen f = address_small g c.at (f.range c.at (omega (arith, cells_tally c.at c cs, count_self c.at))).1

  -- and where there is a block it is not 0
  pub cells_real : (cs : List Cell) (seen : List ℕ) → 1 ≤ length cs → Free A seen (λ i. tally i (cell_pieces cs)) → cells_at cs ≡ 0 → ⊥
  unfolding cells_at
  cells_real [] seen h f z = absurd (omega arith)
  cells_real (c ∷ cs) seen h f z = omega (arith, g.first, (f.range c.at (omega (arith, cells_tally c.at c cs, count_self c.at))).0)

  -- what a block of a chain shows: its next address and its body
  cell_is : (c : Cell) (cs : List Cell) → c.at < A.end → cells_at cs < 2 ^ 32 → GoodCell A.size c → Shows I (A.size * c.at) (bytes 4 (cells_at cs) ++ c.body)
      → (next A.size I c.at ≡ cells_at cs) × (body_at A I c.at ≡ c.body)
  cell_is c cs h m k s =
      let z : Shows I (A.size * c.at + 4) c.body = subst (λ (j : ℕ). Shows I (A.size * c.at + j) c.body) (length_bytes 4 (cells_at cs)) (shows_two I (A.size * c.at) (bytes 4 (cells_at cs)) c.body s) in
      (next_shown A.size I c.at (cells_at cs) c.body m s, read_part I (A.size * c.at + 4) (A.size - 4) c.body k.whole (omega (arith, ground_inside g c.at h, g.known.least)) z)

  -- one block is claimed and found, then the others
  find-cell : (c : Cell) (cs : List Cell) (seen : List ℕ) (f : List ℕ → ℕ → Option (Claimed (List Cell))) → GoodCell A.size c → ShowsAll A.size I (cell_pieces (c ∷ cs)) → Free A seen (chain (c ∷ cs))
      → (Free A (c.at ∷ seen) (chain cs) → Yields (f (c.at ∷ seen) (cells_at cs)) cs (c.at ∷ seen) (chain cs))
      → Yields (then (claim A I c.at seen) (λ s. with_found (λ xs. record { at = c.at; body = body_at A I c.at } ∷ xs) (f s (next A.size I c.at)))) (c ∷ cs) seen (chain (c ∷ cs))
  unfolding cell_pieces
  find-cell c cs seen f k s r go =
      let q : Free A seen (λ i. one c.at i + chain cs i) = free_as (chain (c ∷ cs)) (λ i. one c.at i + chain cs i) (λ i. cells_tally i c cs) r in
      let h : (A.first ≤ c.at) × (c.at < A.end) = q.range c.at (omega (arith, count_self c.at)) in
      let after : Free A (c.at ∷ seen) (chain cs) = free_right (one c.at) (chain cs) (c.at ∷ seen) (λ i. omega (arith, count_cons i c.at seen)) q in
      let e = cell_is c cs h.1 (cells_small cs (c.at ∷ seen) after) k s.0 in
      let with-body : List ℕ → Cell = λ b. record { at = c.at; body = b } in
      let w : List Cell → List Cell = λ xs. record { at = c.at; body = body_at A I c.at } ∷ xs in
      let same : w cs ≡ c ∷ cs = ap (λ (x : Cell). x ∷ cs) (ap with-body e.1) in
      finds_as _ (c ∷ cs) seen (λ i. one c.at i + chain cs i) (chain (c ∷ cs)) (λ i. sym (cells_tally i c cs))
      (subst (λ (z : List Cell). Yields (then (claim A I c.at seen) (λ s. with_found w (f s (next A.size I c.at)))) z seen (λ i. one c.at i + chain cs i)) same
      (finds_claim A I c.at seen (λ s. with_found w (f s (next A.size I c.at))) (w cs) (chain cs) q
      (λ a. finds_with w (f (c.at ∷ seen) (next A.size I c.at)) cs (c.at ∷ seen) (chain cs)
      (finds_same (f (c.at ∷ seen) (cells_at cs)) (f (c.at ∷ seen) (next A.size I c.at)) cs (c.at ∷ seen) (chain cs) (ap (f (c.at ∷ seen)) e.0) (go a)))))

  -- A file's chain, which has exactly its blocks.
  pub find_cells : (cs : List Cell) (seen : List ℕ) → All (GoodCell A.size) cs → ShowsAll A.size I (cell_pieces cs) → Free A seen (λ i. tally i (cell_pieces cs))
      → Yields (cells_of A I (length cs) (cells_at cs) seen) cs seen (λ i. tally i (cell_pieces cs))
  unfolding cells_of cell_pieces cells_at
  find_cells [] seen k s r = finds_test _ _ [] seen _ (eq-eqb 0 0 refl) (finds_end [] seen _ (λ i. tally_none i))
  find_cells (c ∷ cs) seen k s r =
      find-cell c cs seen (λ z a. cells_of A I (length cs) a z) k.0 s r (λ q. find_cells cs (c.at ∷ seen) k.1 s.1 q)

  -- the rest of a device's chain
  more : ℕ → List ℕ → ℕ → Option (Claimed (List Cell))
  more k s a = pick (eqb a 0) (some (record { found = []; seen = s })) (chain_of A I k a s)

  -- A device's chain of at most k blocks.
  find-chain : (k : ℕ) (c : Cell) (cs : List Cell) (seen : List ℕ) → length cs ≤ k → All (GoodCell A.size) (c ∷ cs) → ShowsAll A.size I (cell_pieces (c ∷ cs))
      → Free A seen (λ i. tally i (cell_pieces (c ∷ cs))) → Yields (chain_of A I (suc k) c.at seen) (c ∷ cs) seen (λ i. tally i (cell_pieces (c ∷ cs)))
  unfolding chain_of cell_pieces cells_at more
  find-chain k c [] seen l m s r =
      find-cell c [] seen (more k) m.0 s r
      (λ q. finds_same _ _ [] (c.at ∷ seen) _ (pick_true _ _ (eq-eqb 0 0 refl)) (finds_end [] (c.at ∷ seen) _ (λ i. tally_none i)))
  find-chain zero c (b ∷ cs) seen l m s r = absurd (omega arith)
  find-chain (suc k) c (b ∷ cs) seen l m s r =
      find-cell c (b ∷ cs) seen (more (suc k)) m.0 s r
      (λ q.
      let h : (A.first ≤ b.at) × (b.at < A.end) = q.range b.at (omega (arith, cells_tally b.at b cs, count_self b.at)) in
      finds_same _ _ (b ∷ cs) (c.at ∷ seen) _ (pick_false _ _ (ne_eqb b.at 0 (λ z. omega (arith, h.0, g.first))))
      (find-chain k b cs (c.at ∷ seen) (omega arith) m.1 s.1 q))

-- Free blocks are no more than the area has.
pub free_few : {A : Area} (seen l : List ℕ) → Free A seen (λ i. count i l) → length l ≤ A.end - A.first
free_few {A} seen l f = row (A.end - A.first) A.first l (λ i. omega (arith, f.once i)) (λ i h. let r = f.range i h in (omega arith, omega arith))

module _ {A : Area} {I : List ℕ} (g : Ground A I) where
  -- A device's chain, which has a block.
  pub find_device : (cs : List Cell) (seen : List ℕ) → 1 ≤ length cs → All (GoodCell A.size) cs → ShowsAll A.size I (cell_pieces cs) → Free A seen (λ i. tally i (cell_pieces cs))
      → Yields (chain_of A I (A.end - A.first) (cells_at cs) seen) cs seen (λ i. tally i (cell_pieces cs))
  unfolding cells_at tally
  find_device [] seen h k s r = absurd (omega arith)
  find_device (c ∷ cs) seen h k s r =
      let m : length (c ∷ cs) ≤ A.end - A.first = omega (arith, cells_long (c ∷ cs), free_few seen (ats (cell_pieces (c ∷ cs))) r) in
      let e : A.end - A.first ≡ suc (A.end - A.first - 1) = omega arith in
      finds_same _ _ (c ∷ cs) seen _ (ap (λ (z : ℕ). chain_of A I z c.at seen) e) (find-chain g (A.end - A.first - 1) c cs seen (omega arith) k s r)
