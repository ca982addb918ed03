-- The blocks of a directory that an image shows are those that the check finds.
use mathlib.Core.Path.{◌≡◌, refl, sym, ap, ◌∙◌}
use mathlib.Core.Bool.{true}
use mathlib.Core.Option.{Option, none, some}
use mathlib.Core.List.{List, [], ◌∷◌, ◌++◌}
use Prim.Native.Nat.{ℕ, zero, suc, ◌+◌, ◌-◌, ◌*◌, ◌^◌, ◌≤◌, ◌<◌}
use native.Mathlib.Omega.{arith}
use lib.ListN.{length}
use borrow.Author.Tests.{eq-eqb, ne_eqb}
use Rattle.wire.specs.Be.{bytes}
use Rattle.wire.specs.Pick.{pick}
use Rattle.wire.proofs.Picks.{pick_true, pick_false}
use Rattle.block.specs.Block.{Area, next}
use Rattle.model.specs.Tree.{Entry, Block, then, Filled, Packed}
use Rattle.model.specs.Render.{View, blocks_at, padded, entries_bytes, entry_pieces, dir_pieces, count, Shows, ShowsAll}
use Rattle.model.specs.Volume.{All, GoodBlock}
use Rattle.model.proofs.Counts.{count_cons, count_none, count_self}
use Rattle.model.proofs.Frame.{shows_right}
use Rattle.model.proofs.Entries.{next_shown}
use Rattle.dir_entry.proofs.Shown.{Legible, data_shown}
use Rattle.thm_survey.specs.Survey.{Raw, RawBlock, has_some, Claimed, with_found, claim, raws_from, later_of, blocks_of}
use Rattle.thm_survey.proofs.CompleteLaws.{Free, Yields, free_as, free_right, finds_end, finds_as, finds_same, finds_test, finds_with, finds_claim, one, Ground, ground_inside, address_small}
use Rattle.thm_survey.proofs.CompleteCells.{free_few}
use Rattle.thm_survey.proofs.CompleteRaws.{raws_of, find_raws}
use Rattle.thm_survey.proofs.CompleteNames.{raw_blocks}

-- The addresses of a directory's own blocks, and how often i is one.
unfoldable pub own : {X : Type 0} → List (Block X) → List ℕ
own [] = []
own (b ∷ bs) = b.at ∷ own bs

abbrev pub own_count : {X : Type 0} → List (Block X) → ℕ → ℕ
own_count bs i = count i (own bs)

pub own_long : {X : Type 0} (bs : List (Block X)) → length (own bs) ≡ length bs
unfolding own
own_long [] = refl
own_long (b ∷ bs) = ap suc (own_long bs)

-- The entries of a block are legible.
abbrev pub Clear : {X : Type 0} → View X → Block X → Type 0
Clear v b = All (Legible v) b.entries

has_some_lem : {X : Type 0} (v : View X) (es : List (Entry X)) → 1 ≤ length es → has_some (raws_of v es) ≡ true
unfolding has_some raws_of
has_some_lem v [] h = absurd (omega arith)
has_some_lem v (e ∷ es) h = refl

module _ {X : Type 0} {A : Area} {I : List ℕ} (g : Ground A I) (v : View X) (S : X → Type 0) where
  -- the entries of one block
  block_raws : (b : Block X) (z : ℕ) → b.at < A.end → GoodBlock A.size S b → Clear v b → Shows I (A.size * b.at) (bytes 4 z ++ padded (A.size - 4) (entries_bytes v b.entries))
      → raws_from A.size I A.size b.at 0 ≡ some (raws_of v b.entries)
  block_raws b z h a l s =
      find_raws A I v b.at g.known (ground_inside g b.at h) b.entries A.size 0 (omega arith) (omega (arith, a.fits)) l (data_shown A.size I v b.at z b.entries s)

  -- a next address fits its field
  own_small : (bs : List (Block X)) (seen : List ℕ) → Free A seen (own_count bs) → blocks_at bs < 2 ^ 32
  unfolding own blocks_at
  own_small [] seen f = omega arith
  own_small (b ∷ bs) seen f = address_small g b.at (f.range b.at (omega (arith, count_cons b.at b.at (own bs), count_self b.at))).1

  after : (b : Block X) (bs : List (Block X)) → ShowsAll A.size I (dir_pieces A.size v (b ∷ bs)) → ShowsAll A.size I (dir_pieces A.size v bs)
  unfolding dir_pieces
  after b bs s = shows_right A.size I (entry_pieces v b.entries) (dir_pieces A.size v bs) s.1

  -- one block is claimed and read, then a step that knows its entries and the next address
  find_block : {Y : Type 0} (b : Block X) (bs : List (Block X)) (seen : List ℕ) (f : List Raw → ℕ → List ℕ → Option (Claimed Y)) (y : Y)
      → GoodBlock A.size S b → Clear v b → ShowsAll A.size I (dir_pieces A.size v (b ∷ bs)) → Free A seen (own_count (b ∷ bs))
      → (Free A (b.at ∷ seen) (own_count bs) → Yields (f (raws_of v b.entries) (blocks_at bs) (b.at ∷ seen)) y (b.at ∷ seen) (own_count bs))
      → Yields (then (claim A I b.at seen) (λ s. then (raws_from A.size I A.size b.at 0) (λ rs. f rs (next A.size I b.at) s))) y seen (own_count (b ∷ bs))
  unfolding dir_pieces own then
  find_block b bs seen f y a l s r go =
      let q : Free A seen (λ i. one b.at i + own_count bs i) = free_as (own_count (b ∷ bs)) (λ i. one b.at i + own_count bs i) (λ i. count_cons i b.at (own bs)) r in
      let h : (A.first ≤ b.at) × (b.at < A.end) = q.range b.at (omega (arith, count_self b.at)) in
      let rest : Free A (b.at ∷ seen) (own_count bs) = free_right (one b.at) (own_count bs) (b.at ∷ seen) (λ i. omega (arith, count_cons i b.at seen)) q in
      let z : next A.size I b.at ≡ blocks_at bs = next_shown A.size I b.at (blocks_at bs) (padded (A.size - 4) (entries_bytes v b.entries)) (own_small bs (b.at ∷ seen) rest) s.0 in
      let w : raws_from A.size I A.size b.at 0 ≡ some (raws_of v b.entries) = block_raws b (blocks_at bs) h.1 a l s.0 in
      finds_as _ y seen (λ i. one b.at i + own_count bs i) (own_count (b ∷ bs)) (λ i. sym (count_cons i b.at (own bs)))
      (finds_claim A I b.at seen (λ s. then (raws_from A.size I A.size b.at 0) (λ rs. f rs (next A.size I b.at) s)) y (own_count bs) q
      (λ m. finds_same (f (raws_of v b.entries) (blocks_at bs) (b.at ∷ seen)) _ y (b.at ∷ seen) (own_count bs)
      (ap (λ (o : Option (List Raw)). then o (λ rs. f rs (next A.size I b.at) (b.at ∷ seen))) w ∙ ap (λ (j : ℕ). f (raws_of v b.entries) j (b.at ∷ seen)) z)
      (go m)))

  -- what is found with a block
  with : ℕ → List Raw → List RawBlock → List RawBlock
  with a rs bs = record { at = a; raws = rs } ∷ bs

  -- The later blocks, at most k.
  find_later : (bs : List (Block X)) (k : ℕ) (seen : List ℕ) → length bs ≤ k → Filled bs → All (GoodBlock A.size S) bs → All (Clear v) bs → ShowsAll A.size I (dir_pieces A.size v bs)
      → Free A seen (own_count bs) → Yields (later_of A I k (blocks_at bs) seen) (raw_blocks v bs) seen (own_count bs)
  unfolding later_of blocks_at raw_blocks own with
  find_later [] zero seen h p a l s r = finds_test _ _ [] seen _ (eq-eqb 0 0 refl) (finds_end [] seen _ (λ i. count_none i))
  find_later [] (suc k) seen h p a l s r = finds_same _ _ [] seen _ (pick_true _ _ (eq-eqb 0 0 refl)) (finds_end [] seen _ (λ i. count_none i))
  find_later (b ∷ bs) zero seen h p a l s r = absurd (omega arith)
  find_later (b ∷ bs) (suc k) seen h p a l s r =
      let m : (A.first ≤ b.at) × (b.at < A.end) = r.range b.at (omega (arith, count_cons b.at b.at (own bs), count_self b.at)) in
      finds_same _ _ (raw_blocks v (b ∷ bs)) seen _ (pick_false _ _ (ne_eqb b.at 0 (λ z. omega (arith, m.0, g.first))))
      (find_block b bs seen (λ rs z t. pick (has_some rs) (with_found (with b.at rs) (later_of A I k z t)) none) (raw_blocks v (b ∷ bs)) a.0 l.0 s r
      (λ q. finds_test _ _ _ (b.at ∷ seen) _ (has_some_lem v b.entries p.0)
      (finds_with (with b.at (raws_of v b.entries)) _ (raw_blocks v bs) (b.at ∷ seen) _
      (find_later bs k (b.at ∷ seen) (omega arith) p.1 a.1 l.1 (after b bs s) q))))

  -- A directory's blocks, with what stands in them.
  pub find-blocks : (bs : List (Block X)) (seen : List ℕ) → Packed bs → All (GoodBlock A.size S) bs → All (Clear v) bs → ShowsAll A.size I (dir_pieces A.size v bs)
      → Free A seen (own_count bs) → Yields (blocks_of A I (blocks_at bs) seen) (raw_blocks v bs) seen (own_count bs)
  unfolding blocks_of blocks_at raw_blocks with
  find-blocks [] seen p a l s r = absurd p
  find-blocks (b ∷ bs) seen p a l s r =
      let h : length (b ∷ bs) ≤ A.end - A.first = omega (arith, own_long (b ∷ bs), free_few seen (own (b ∷ bs)) r) in
      find_block b bs seen (λ rs z t. with_found (with b.at rs) (later_of A I (A.end - A.first - 1) z t)) (raw_blocks v (b ∷ bs)) a.0 l.0 s r
      (λ q. finds_with (with b.at (raws_of v b.entries)) _ (raw_blocks v bs) (b.at ∷ seen) _
      (find_later bs (A.end - A.first - 1) (b.at ∷ seen) (omega arith) p a.1 l.1 (after b bs s) q))
