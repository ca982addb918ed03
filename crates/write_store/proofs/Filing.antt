-- Size and time stored in a file's entry: what its block shows then.
use mathlib.Core.Path.{◌≡◌, sym, ◌∙◌, subst}
use mathlib.Core.List.{List, ◌∷◌, ◌++◌}
use Prim.Native.Nat.{ℕ, ◌+◌, ◌-◌, ◌*◌, ◌≤◌}
use native.Mathlib.Omega.{arith}
use lib.ListN.{length, length-append}
use Rattle.wire.specs.Be.{bytes, splice}
use Rattle.wire.proofs.Numbers.{length_bytes, length-splice}
use Rattle.block.specs.Block.{cell, Off, Kept}
use Rattle.model.specs.Tree.{Name, Cell, weight}
use Rattle.model.specs.Render.{Piece, View, cells_at, padded, kind_of, address_of, size_of, entry_bytes, Shows}
use Rattle.model.specs.Volume.{All}
use Rattle.model.specs.Calls.{file_entry}
use Rattle.model.proofs.Alike.{length_entry}
use Rattle.model.proofs.Commit.{shows_both, shows_one, shows_two, shows_stored, shows_before, shows_after}
use Rattle.model.proofs.Cuts.{Cut}
use Rattle.model.proofs.Full.{Whole}
use Rattle.model.proofs.Owns.{renewed_at, own_entry, own_block, renewed_kept, cut_fits}

-- ---- the entry alone

-- A file's entry renewed: its size and its time are stored, and the rest of it stays.
file_stored : {X : Type 0} (v : View X) (I : List ℕ) (k : ℕ) (n : Name) (c c' z z' : ℕ) (cs ds : List Cell) → cells_at ds ≡ cells_at cs → k + 17 ≤ length I
    → Shows I k (entry_bytes v (file_entry n c z cs)) → Shows (renewed_at I k z' c') k (entry_bytes v (file_entry n c' z' ds))
unfolding entry_bytes address_of size_of kind_of file_entry
file_stored v I k n c c' z z' cs ds q h a =
    let A : List ℕ = 1 ∷ bytes 4 (cells_at cs) in
    let N : List ℕ = length n ∷ n in
    let la : length (bytes 4 (cells_at cs)) ≡ 4 = length_bytes 4 (cells_at cs) in
    let ls : length (bytes 4 z) ≡ 4 = length_bytes 4 z in
    let lu : length (bytes 4 z') ≡ 4 = length_bytes 4 z' in
    let lc : length (bytes 8 c) ≡ 8 = length_bytes 8 c in
    let lt : length (bytes 8 c') ≡ 8 = length_bytes 8 c' in
    let J : List ℕ = splice I (k + 5) (bytes 4 z') in
    let hI : k + 5 + length (bytes 4 z') ≤ length I = omega arith in
    let hJ : k + 9 + length (bytes 8 c') ≤ length J = omega (arith, length-splice I (k + 5) (bytes 4 z') hI) in
    let both : length (A ++ bytes 4 z) ≡ 9 = rw length-append (omega arith) in
    let both' : length (A ++ bytes 4 z') ≡ 9 = rw length-append (omega arith) in
    let a₁ : Shows I k A = shows_one I k A (bytes 4 z) (shows_one I k (A ++ bytes 4 z) (bytes 8 c ++ N) a) in
    let a₂ : Shows I (k + 9 + 8) N = rw (both, lc) at (shows_two I (k + length (A ++ bytes 4 z)) (bytes 8 c) N (shows_two I k (A ++ bytes 4 z) (bytes 8 c ++ N) a)) in
    let K : List ℕ = splice J (k + 9) (bytes 8 c') in
    let b₁ : Shows K k A = shows_before J (k + 9) (bytes 8 c') hJ k A (omega arith) (shows_before I (k + 5) (bytes 4 z') hI k A (omega arith) a₁) in
    let b₂ : Shows K (k + length A) (bytes 4 z')
    = shows_before J (k + 9) (bytes 8 c') hJ (k + length A) (bytes 4 z') (omega arith) (subst (λ (x : ℕ). Shows J x (bytes 4 z')) (let r : k + 5 ≡ k + length A = omega arith in r) (shows_stored I (k + 5) (bytes 4 z') hI)) in
    let b₃ : Shows K (k + 9) (bytes 8 c') = shows_stored J (k + 9) (bytes 8 c') hJ in
    let b₄ : Shows K (k + 9 + 8) N = shows_after J (k + 9) (bytes 8 c') hJ (k + 9 + 8) N (omega arith) (shows_after I (k + 5) (bytes 4 z') hI (k + 9 + 8) N (omega arith) a₂) in
    subst (λ (x : ℕ). Shows K k ((1 ∷ (bytes 4 x ++ bytes 4 z')) ++ (bytes 8 c' ++ N))) (sym q)
    (shows_both K k (A ++ bytes 4 z') (bytes 8 c' ++ N) (shows_both K k A (bytes 4 z') b₁ b₂)
    (rw both' (shows_both K (k + 9) (bytes 8 c') N b₃ (rw lt b₄))))

-- ---- the block of a cut

-- The block with a file's entry renewed.
module _ {X : Type 0} (B : ℕ) (xs ys us vs : List Piece) (q : ℕ) (v : View X) (n : Name) (k k' z z' : ℕ) (cs ds : List Cell)
    (c : Cut B xs ys us vs q (entry_bytes v (file_entry n k z cs)) (entry_bytes v (file_entry n k' z' ds))) (large : 4 ≤ B) (w : All (Whole B) xs) (J : List ℕ) (h : B * c.at + B ≤ length J) where
  abbrev E : List ℕ
  E = entry_bytes v (file_entry n k z cs)

  abbrev E' : List ℕ
  E' = entry_bytes v (file_entry n k' z' ds)

  E-long : length E ≡ 18 + length n
  unfolding weight file_entry
  E-long = length_entry v (file_entry n k z cs)

  E'-long : length E' ≡ 18 + length n
  unfolding weight file_entry
  E'-long = length_entry v (file_entry n k' z' ds)

  fits : length (c.low ++ (E ++ c.high)) ≤ B - 4
  fits = cut_fits B xs ys us vs q E E' c w

  room : 4 + length c.low + 18 ≤ B
  room = omega (arith, fits, length-append c.low (E ++ c.high), length-append E c.high, E-long)

  place : q ≡ B * c.at + (4 + length c.low)
  place = c.stands ∙ omega arith

  pub filing_kept : Kept B (Off c.at (4 + length c.low + 5) 12) J (renewed_at J q z' k')
  filing_kept = subst (λ (x : ℕ). Kept B (Off c.at (4 + length c.low + 5) 12) J (renewed_at J x z' k')) (sym place) (renewed_kept B J c.at (4 + length c.low) z' k' h room)

  pub filing_shown : cells_at ds ≡ cells_at cs → Shows J (B * c.at) (bytes 4 c.next ++ padded (B - 4) (c.low ++ (E ++ c.high)))
      → Shows (renewed_at J q z' k') (B * c.at) (bytes 4 c.next ++ padded (B - 4) (c.low ++ (E' ++ c.high)))
  unfolding cell
  filing_shown e s =
      let entry : Shows J q E = subst (λ (x : ℕ). Shows J x E) (sym c.stands) (own_entry B c.at c.next c.low E c.high J s) in
      let new : Shows (renewed_at J q z' k') q E' = file_stored v J q n k k' z z' cs ds e (omega (arith, room, place)) entry in
      own_block B c.at c.next c.low E c.high J s E' (renewed_at J q z' k') large (E'-long ∙ sym E-long) fits
      (λ i p x. filing_kept.at c.at i (λ _ a b. x (omega arith) (omega (arith, E-long))) p)
      (subst (λ (x : ℕ). Shows (renewed_at J q z' k') x E') c.stands new)
