-- A directory that an image shows is the one that the check finds, where that holds of what is below it.
use mathlib.Core.Path.{◌≡◌, refl, sym, ap, ◌∙◌, subst}
use mathlib.Core.Option.{Option}
use mathlib.Core.List.{List, [], ◌∷◌, ◌++◌}
use Prim.Native.Nat.{ℕ, ◌+◌, ◌-◌, ◌^◌, ◌<◌, ◌≤◌}
use native.Mathlib.Omega.{arith}
use lib.ListN.{length}
use borrow.Author.Tests.{le-leb, eq-eqb}
use Rattle.block.specs.Block.{Area}
use Rattle.model.specs.Tree.{Node, file, device, sub, Entry, Block}
use Rattle.model.specs.Render.{Piece, View, cells_at, cell_pieces, blocks_at, address_of, size_of, node_pieces, entry_pieces, dir_pieces, ShowsAll}
use Rattle.model.specs.Volume.{All, GoodNode, GoodEntry, GoodBlock, GoodDir, blocks_for}
use Rattle.model.proofs.Contents.{blocks-some}
use Rattle.model.proofs.Counts.{count_cons, count_none, tally, tally_none, tally_append, dir_tally, entries_tally}
use Rattle.model.proofs.Frame.{shows_left, shows_right}
use Rattle.dir_entry.specs.declared.DirEntry.{DirEntry}
use Rattle.dir_entry.specs.Shown.{kind_is, head_of}
use Rattle.dir_entry.proofs.Shown.{Legible}
use Rattle.thm_survey.specs.Survey.{Claimed, with_found, cells_of, chain_of, sub_of, node_of, entries_of, dir_of, check_dir, blocks_of}
use Rattle.thm_survey.proofs.CompleteLaws.{Free, Yields, free_as, free_part, free_left, free_right, finds_end, finds_as, finds_same, finds_test, finds_with, finds_then, Ground}
use Rattle.thm_survey.proofs.CompleteCells.{cells_small, cells_real, find_cells, find_device}
use Rattle.thm_survey.proofs.CompleteRaws.{raws_of}
use Rattle.thm_survey.proofs.CompleteNames.{raw_blocks, names_pass}
use Rattle.thm_survey.proofs.CompleteBlocks.{own, own_count, Clear, find-blocks}

-- how often block i is in the pieces
abbrev pub inside : List Piece → ℕ → ℕ
inside xs i = tally i xs

-- All that the entries of a directory's blocks stand for.
unfoldable pub inner : {X : Type 0} → View X → List (Block X) → List Piece
inner v [] = []
inner v (b ∷ bs) = entry_pieces v b.entries ++ inner v bs

module _ {X : Type 0} (B : ℕ) (v : View X) where
  none_tally : (i : ℕ) → tally i (dir_pieces B v []) ≡ 0
  unfolding dir_pieces
  none_tally i = tally_none i

  -- A directory's blocks are its own and those of its entries.
  pub dir_parts : (i : ℕ) (bs : List (Block X)) → tally i (dir_pieces B v bs) ≡ own_count bs i + inside (inner v bs) i
  unfolding own inner
  dir_parts i [] = omega (arith, none_tally i, tally_none i, count_none i)
  dir_parts i (b ∷ bs) =
      omega (arith, dir_tally B v i b bs, dir_parts i bs, count_cons i b.at (own bs), tally_append i (entry_pieces v b.entries) (inner v bs))

  inner_shown : (I : List ℕ) (bs : List (Block X)) → ShowsAll B I (dir_pieces B v bs) → All (λ b. ShowsAll B I (entry_pieces v b.entries)) bs
  unfolding dir_pieces
  inner_shown I [] s = tt
  inner_shown I (b ∷ bs) s = (shows_left B I (entry_pieces v b.entries) (dir_pieces B v bs) s.1, inner_shown I bs (shows_right B I (entry_pieces v b.entries) (dir_pieces B v bs) s.1))

-- What the check of a subdirectory has to find, and that its address and size fit their fields.
pub record Sub {X : Type 0} (A : Area) (I : List ℕ) (v : View X) (S : X → Type 0) (below : ℕ → List ℕ → Option (Claimed X)) (size : X → ℕ) : Type 0 where
  pub sum_is : (x : X) → size x ≡ v.size x
  pub fits : (x : X) (seen : List ℕ) → S x → Free A seen (inside (v.pieces x)) → ((v.from x < 2 ^ 32) × (v.from x ≡ 0 → ⊥)) × (v.size x < 2 ^ 32)
  pub finds : (x : X) (seen : List ℕ) → S x → ShowsAll A.size I (v.pieces x) → Free A seen (inside (v.pieces x)) → Yields (below (v.from x) seen) x seen (inside (v.pieces x))

module _ {X : Type 0} {A : Area} {I : List ℕ} (g : Ground A I) (v : View X) (S : X → Type 0) (below : ℕ → List ℕ → Option (Claimed X)) (size : X → ℕ) (sb : Sub A I v S below size) where
  -- ---- what an entry stands for

  find-sub : (x : X) (e : DirEntry) (seen : List ℕ) → e.addr.0 ≡ v.from x → e.size ≡ v.size x → S x → ShowsAll A.size I (v.pieces x) → Free A seen (inside (v.pieces x))
      → Yields (sub_of A I below size e seen) (sub x) seen (inside (v.pieces x))
  unfolding sub_of
  find-sub x e seen ea es a s r =
      finds_as _ (sub x) seen (λ i. inside (v.pieces x) i + 0) (inside (v.pieces x)) (λ i. omega arith)
      (finds_then (below e.addr.0 seen) _ x (sub x) seen (inside (v.pieces x)) (λ i. 0)
      (finds_same (below (v.from x) seen) _ x seen _ (ap (λ (z : ℕ). below z seen) ea) (sb.finds x seen a s r))
      (λ t q. finds_test _ _ (sub x) t (λ i. 0) (eq-eqb e.size (size x) (es ∙ sym (sb.sum_is x))) (finds_end (sub x) t (λ i. 0) (λ i. refl))))

  find_node : (x : Node X) (e : DirEntry) (seen : List ℕ) → e.addr.0 ≡ address_of v x → e.size ≡ size_of v x → GoodNode A.size S x → ShowsAll A.size I (node_pieces v x)
      → Free A seen (inside (node_pieces v x)) → Yields (node_of A I below size (kind_is x) e seen) x seen (inside (node_pieces v x))
  unfolding node_of node_pieces address_of size_of
  find_node (file z cs) e seen ea es a s r =
      finds_test _ _ (file z cs) seen _ (le-leb e.size 2147483647 (omega (arith, es, a.limit)))
      (subst (λ (y : ℕ). Yields {X = Node X} (with_found (file y) (cells_of A I (blocks_for A.size y) e.addr.0 seen)) (file z cs) seen (inside (cell_pieces cs))) (sym es)
      (finds_with (file z) _ cs seen _
      (finds_same (cells_of A I (length cs) (cells_at cs) seen) _ cs seen _
      (ap (λ (y : ℕ). cells_of A I y e.addr.0 seen) (sym a.long) ∙ ap (λ (y : ℕ). cells_of A I (length cs) y seen) ea)
      (find_cells g cs seen a.cells s r))))
  find_node (device z cs) e seen ea es a s r =
      subst (λ (y : ℕ). Yields {X = Node X} (with_found (device y) (chain_of A I (A.end - A.first) e.addr.0 seen)) (device z cs) seen (inside (cell_pieces cs))) (sym es)
      (finds_with (device z) _ cs seen _
      (finds_same (chain_of A I (A.end - A.first) (cells_at cs) seen) _ cs seen _ (ap (λ (y : ℕ). chain_of A I (A.end - A.first) y seen) ea)
      (find_device g cs seen a.some_block a.cells s r)))
  find_node (sub x) e seen ea es a s r = find-sub x e seen ea es a s r

  -- ---- the entries of a block, and of a directory

  find_entries : (es : List (Entry X)) (seen : List ℕ) → All (GoodEntry A.size S) es → ShowsAll A.size I (entry_pieces v es) → Free A seen (inside (entry_pieces v es))
      → Yields (entries_of A I below size (raws_of v es) seen) es seen (inside (entry_pieces v es))
  unfolding entries_of raws_of head_of entry_pieces
  find_entries [] seen a s r = finds_end [] seen _ (λ i. tally_none i)
  find_entries (e ∷ es) seen a s r =
      let c : ℕ → ℕ = inside (node_pieces v e.node) in
      let m : ℕ → ℕ = inside (entry_pieces v es) in
      let q : Free A seen (λ i. c i + m i) = free_as (inside (entry_pieces v (e ∷ es))) (λ i. c i + m i) (λ i. tally_append i (node_pieces v e.node) (entry_pieces v es)) r in
      finds_as _ (e ∷ es) seen (λ i. c i + m i) (inside (entry_pieces v (e ∷ es))) (λ i. sym (tally_append i (node_pieces v e.node) (entry_pieces v es)))
      (finds_then (node_of A I below size (kind_is e.node) (head_of v e) seen) _ e.node (e ∷ es) seen c m
      (find_node e.node (head_of v e) seen refl refl a.0.below (shows_left A.size I (node_pieces v e.node) (entry_pieces v es) s) (free_left c m q))
      (λ t w. finds_with (λ xs. e ∷ xs) _ es t m
      (find_entries es t a.1 (shows_right A.size I (node_pieces v e.node) (entry_pieces v es) s) (free_right c m t w q))))

  find_dir : (bs : List (Block X)) (seen : List ℕ) → All (GoodBlock A.size S) bs → All (λ b. ShowsAll A.size I (entry_pieces v b.entries)) bs → Free A seen (inside (inner v bs))
      → Yields (dir_of A I below size (raw_blocks v bs) seen) bs seen (inside (inner v bs))
  unfolding dir_of raw_blocks inner
  find_dir [] seen a s r = finds_end [] seen _ (λ i. tally_none i)
  find_dir (b ∷ bs) seen a s r =
      let c : ℕ → ℕ = inside (entry_pieces v b.entries) in
      let m : ℕ → ℕ = inside (inner v bs) in
      let q : Free A seen (λ i. c i + m i) = free_as (inside (inner v (b ∷ bs))) (λ i. c i + m i) (λ i. tally_append i (entry_pieces v b.entries) (inner v bs)) r in
      finds_as _ (b ∷ bs) seen (λ i. c i + m i) (inside (inner v (b ∷ bs))) (λ i. sym (tally_append i (entry_pieces v b.entries) (inner v bs)))
      (finds_then (entries_of A I below size (raws_of v b.entries) seen) _ b.entries (b ∷ bs) seen c m
      (find_entries b.entries seen a.0.each s.0 (free_left c m q))
      (λ t w. finds_with (λ xs. b ∷ xs) _ bs t m (find_dir bs t a.1 s.1 (free_right c m t w q))))

  -- ---- numbers fit their fields

  node_fits : (x : Node X) (seen : List ℕ) → GoodNode A.size S x → Free A seen (inside (node_pieces v x)) → ((address_of v x < 2 ^ 32) × (address_of v x ≡ 0 → ⊥)) × (size_of v x < 2 ^ 32)
  unfolding node_pieces address_of size_of
  node_fits (file z cs) seen a f = ((cells_small g cs seen f, cells_real g cs seen (omega (arith, a.long, blocks-some A.size (omega (arith, g.known.least)) z)) f), omega (arith, a.limit))
  node_fits (device z cs) seen a f = ((cells_small g cs seen f, cells_real g cs seen a.some_block f), a.limit)
  node_fits (sub x) seen a f = sb.fits x seen a f

  -- a number that is not 0
  some : {k : ℕ} → (k ≡ 0 → ⊥) → 1 ≤ k
  some h = omega arith

  entries_clear : (es : List (Entry X)) (seen : List ℕ) → All (GoodEntry A.size S) es → Free A seen (inside (entry_pieces v es)) → All (Legible v) es
  entries_clear [] seen a f = tt
  entries_clear (e ∷ es) seen a f =
      let r = node_fits e.node seen a.0.below (free_part _ (inside (node_pieces v e.node)) (λ i. omega (arith, entries_tally A.size v i e es)) f) in (
        record { good_name = a.0.good_name; some_address = some r.0.1; address = r.0.0; size = r.1; time = a.0.clock },
        entries_clear es seen a.1 (free_part _ (inside (entry_pieces v es)) (λ i. omega (arith, entries_tally A.size v i e es)) f),
      )

  dir_clear : (bs : List (Block X)) (seen : List ℕ) → All (GoodBlock A.size S) bs → Free A seen (inside (inner v bs)) → All (Clear v) bs
  unfolding inner
  dir_clear [] seen a f = tt
  dir_clear (b ∷ bs) seen a f = (
    entries_clear b.entries seen a.0.each (free_part _ (inside (entry_pieces v b.entries)) (λ i. omega (arith, tally_append i (entry_pieces v b.entries) (inner v bs))) f),
    dir_clear bs seen a.1 (free_part _ (inside (inner v bs)) (λ i. omega (arith, tally_append i (entry_pieces v b.entries) (inner v bs))) f),
  )

  -- A directory: its blocks, its names, its entries.
  pub find_check : (bs : List (Block X)) (seen : List ℕ) → GoodDir A.size S bs → ShowsAll A.size I (dir_pieces A.size v bs) → Free A seen (inside (dir_pieces A.size v bs))
      → Yields (check_dir A I below size (blocks_at bs) seen) bs seen (inside (dir_pieces A.size v bs))
  unfolding check_dir
  find_check bs seen a s r =
      let c : ℕ → ℕ = own_count bs in
      let m : ℕ → ℕ = inside (inner v bs) in
      let q : Free A seen (λ i. c i + m i) = free_as (inside (dir_pieces A.size v bs)) (λ i. c i + m i) (λ i. dir_parts A.size v i bs) r in
      let l : All (Clear v) bs = dir_clear bs seen a.all (free_part (λ i. c i + m i) m (λ i. omega arith) q) in
      finds_as _ bs seen (λ i. c i + m i) (inside (dir_pieces A.size v bs)) (λ i. sym (dir_parts A.size v i bs))
      (finds_then (blocks_of A I (blocks_at bs) seen) _ (raw_blocks v bs) bs seen c m (find-blocks g v S bs seen a.packed a.all l s (free_left c m q))
      (λ t w. finds_test _ _ bs t m (names_pass v bs a.distinct) (find_dir bs t a.all (inner_shown A.size v I bs s) (free_right c m t w q))))
