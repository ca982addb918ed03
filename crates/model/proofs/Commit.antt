-- What a changing call has to show of its image, and no more, for the volume to be well formed again with the edited tree.
use mathlib.Core.Path.{◌≡◌, sym, ap, ◌∙◌, subst}
use mathlib.Core.Option.{some}
use mathlib.Core.List.{List, ◌∷◌, ◌++◌}
use Prim.Native.Nat.{ℕ, suc, ◌+◌, ◌-◌, ◌*◌, ◌^◌, ◌≤◌, ◌<◌}
use native.Mathlib.Nat.{add_assoc}
use native.Mathlib.Omega.{arith}
use native.Mathlib.Decide.{dec_lt}
use lib.ListN.{length, get_or, length-append, get_or-append}
use lib.Seq.{get_or-append-add}
use Rattle.wire.specs.Be.{bytes, splice}
use Rattle.wire.proofs.Numbers.{length_bytes, length-splice, splice_before, splice_in, splice-after}
use Rattle.bits.specs.Bit.{bit}
use Rattle.model.specs.Tree.{Name, sub, Tree, sum, Edit, edit, Some, find}
use Rattle.model.specs.Render.{Piece, blocks_at, padded, kind_of, address_of, size_of, entry_bytes, view, render, ats, count, blocks, Shows, ShowsAll}
use Rattle.model.specs.Geometry.{Sound, map_bits, Geo, block_size, map_at, data_at, super_bytes}
use Rattle.model.specs.Volume.{GoodTree, Volume}
use Rattle.model.proofs.Counts.{length-ats}
use Rattle.model.proofs.Areas.{laid_volume, size_large}
use Rattle.model.proofs.Cuts.{Cut, OwnCut, edit_below_at}
use Rattle.model.proofs.Frame.{SameBlock, cut_shows, blocks-edit}
use Rattle.model.proofs.Full.{whole_tree}
use Rattle.model.proofs.Good.{good_edit}

-- ---- lengths

-- how many pieces a cut has
cut_long : (a : List Piece) (x : Piece) (b us c : List Piece)
    → length (ats (a ++ (x ∷ (b ++ (us ++ c))))) ≡ length (ats a) + (1 + (length (ats b) + (length (ats us) + length (ats c))))
unfolding ats
cut_long a x b us c = omega (arith, length-ats a (x ∷ (b ++ (us ++ c))), length-ats b (us ++ c), length-ats us c)

pub cut_length : (B : ℕ) (xs ys us vs : List Piece) (q : ℕ) (E E' : List ℕ) → Cut B xs ys us vs q E E' → length (ats ys) + length (ats us) ≡ length (ats xs) + length (ats vs)
cut_length B xs ys us vs q E E' c =
    let m = cut_long c.before (record { at = c.at; full = bytes 4 c.next ++ padded (B - 4) (c.low ++ (E ++ c.high)) }) c.between us c.after in
    let n = cut_long c.before (record { at = c.at; full = bytes 4 c.next ++ padded (B - 4) (c.low ++ (E' ++ c.high)) }) c.between vs c.after in
    omega (arith, m, n, ap (λ (l : List Piece). length (ats l)) c.old, ap (λ (l : List Piece). length (ats l)) c.new)

-- what is replaced is no longer than the whole
pub cut_shorter : (B : ℕ) (xs ys us vs : List Piece) (q : ℕ) (E E' : List ℕ) → Cut B xs ys us vs q E E' → length (ats us) ≤ length (ats xs)
cut_shorter B xs ys us vs q E E' c =
    let m = cut_long c.before (record { at = c.at; full = bytes 4 c.next ++ padded (B - 4) (c.low ++ (E ++ c.high)) }) c.between us c.after in
    omega (arith, m, ap (λ (l : List Piece). length (ats l)) c.old)

-- ---- what a call shows

-- s is the directory at the path, and u what it becomes.
pub record Commit (g : Geo) (I I' : List ℕ) (d : ℕ) (t : Tree d) (e : ℕ) (s u : Tree e) : Type 0 where
  pub long : length I' ≡ length I
  -- the superblock, with the count moved by the blocks that come and go
  pub total : ℕ
  pub moved : total + length (blocks (block_size g) e s) ≡ data_at g + length (blocks (block_size g) d t) + length (blocks (block_size g) e u)
  pub top : Shows I' (block_size g * g.K) (super_bytes g total)
  -- and so the bitmap
  pub bits : (x : ℕ) → x < map_bits g
      → bit I' (block_size g * map_at g) x + count (data_at g + x) (blocks (block_size g) e s) ≡ bit I (block_size g * map_at g) x + count (data_at g + x) (blocks (block_size g) e u)
  -- no block of u was taken by others or is there twice
  pub fresh : (i : ℕ) → count i (blocks (block_size g) d t) + count i (blocks (block_size g) e u) ≤ 1 + count i (blocks (block_size g) e s)
  pub inside : (i : ℕ) → 1 ≤ count i (blocks (block_size g) e u) → (data_at g ≤ i) × (i < g.n)
  pub has_bit : (i : ℕ) → 1 ≤ count i (blocks (block_size g) e u) → i < data_at g + map_bits g
  pub first : blocks_at u ≡ blocks_at s
  pub good : GoodTree (block_size g) e u
  pub shown : ShowsAll (block_size g) I' (render (block_size g) e u)

either_range : (P : Type 0) (a b x y : ℕ) → a + b ≡ x + y → 1 ≤ a → (1 ≤ x → P) → (1 ≤ y → P) → P
either_range P a b x y e h l r = go (dec_lt 0 x)
  where
    go : Dec (0 < x) → P
    go (yes p) = l p
    go (no p) = r (omega arith)

-- The root.
pub commit_root : (g : Geo) (I I' : List ℕ) (d : ℕ) (t u : Tree d) → Volume g I d t → Commit g I I' d t d t u → Volume g I' d u
commit_root g I I' d t u v m =
    let B : ℕ = block_size g in
    let total : m.total ≡ data_at g + length (blocks B d u) = omega (arith, m.moved) in
    laid_volume g I' d u (record {
      sound = subst (Sound g) (sym m.long) v.laid.sound;
      top = subst (λ (z : ℕ). Shows I' (B * g.K) (super_bytes g z)) total m.top;
      root = m.first ∙ v.laid.root;
      shown = m.shown;
      once = λ i. omega (arith, m.fresh i);
      range = m.inside;
      bits = m.has_bit;
      good = m.good;
    }) (λ x y. omega (arith, m.bits x y, v.marked x y))

module _ (g : Geo) (I I' : List ℕ) (d : ℕ) (t : Tree d) (n : Name) (p : List Name) (k : ℕ → ℕ) (f : Edit) (s : Some) where
  -- A directory below the root: besides, other blocks stay, and its own entry is renewed.
  pub commit : Volume g I d t → find d (n ∷ p) t ≡ some s → Commit g I I' d t s.0 s.1 (f s.0 s.1) → ((c : ℕ) → c < 2 ^ 64 → k c < 2 ^ 64)
      → (c : OwnCut (block_size g) d (n ∷ p) k f t s)
      → ((b : ℕ) → 1 ≤ count b (blocks (block_size g) d t) → count b (blocks (block_size g) s.0 s.1) ≡ 0 → (b ≡ c.cut.at → ⊥) → SameBlock (block_size g) I I' b)
      → Shows I' (block_size g * c.cut.at) (bytes 4 c.cut.next ++ padded (block_size g - 4) (c.cut.low ++
      (entry_bytes (view (block_size g) (suc s.0)) (record { name = c.name; time = k c.time; node = sub (f s.0 s.1) }) ++ c.cut.high)))
      → Volume g I' d (edit d (n ∷ p) k f t)
  commit v h m q c others own =
      let B : ℕ = block_size g in
      let t' : Tree d = edit d (n ∷ p) k f t in
      let counts : (i : ℕ) → count i (blocks B d t') + count i (blocks B s.0 s.1) ≡ count i (blocks B d t) + count i (blocks B s.0 (f s.0 s.1))
      = blocks-edit B d (n ∷ p) k f t s h in
      let len : length (blocks B d t') + length (blocks B s.0 s.1) ≡ length (blocks B d t) + length (blocks B s.0 (f s.0 s.1)) = cut_length B _ _ _ _ _ _ _ c.cut in
      let total : m.total ≡ data_at g + length (blocks B d t') = omega (arith, m.moved, len) in
      laid_volume g I' d t' (record {
        sound = subst (Sound g) (sym m.long) v.laid.sound;
        top = subst (λ (z : ℕ). Shows I' (B * g.K) (super_bytes g z)) total m.top;
        root = edit_below_at d n p k f t ∙ v.laid.root;
        shown = cut_shows B _ _ _ _ _ _ _ c.cut I I' (whole_tree B (omega (arith, size_large g)) d t v.laid.good) v.laid.once v.laid.shown others own m.shown;
        once = λ i. omega (arith, counts i, m.fresh i);
        range = λ i x. either_range _ _ _ _ _ (counts i) x (v.laid.range i) (m.inside i);
        bits = λ i x. either_range _ _ _ _ _ (counts i) x (v.laid.bits i) (m.has_bit i);
        good = good_edit B d (n ∷ p) k f t s h v.laid.good m.good q;
      }) (λ x y. omega (arith, m.bits x y, v.marked x y, counts (data_at g + x)))

-- ---- bytes of the image: what it shows of lists side by side

module _ (I : List ℕ) (k : ℕ) (l m : List ℕ) where
  pub shows_both : Shows I k l → Shows I (k + length l) m → Shows I k (l ++ m)
  shows_both a b i h = go (dec_lt i (length l))
    where
      go : Dec (i < length l) → get_or I (k + i) 0 ≡ get_or (l ++ m) i 0
      go (yes p) = a i p ∙ sym (get_or-append l m 0 i p)
      go (no p) =
          let j : ℕ = i - length l in
          let e : i ≡ length l + j = omega arith in
          let z : k + i ≡ k + length l + j = omega arith in
          ap (λ (x : ℕ). get_or I x 0) z ∙ b j (omega (arith, rw length-append at h)) ∙ sym (get_or-append-add l m j 0) ∙ ap (λ (x : ℕ). get_or (l ++ m) x 0) (sym e)

  pub shows_one : Shows I k (l ++ m) → Shows I k l
  shows_one a i h = a i (rw length-append (omega arith)) ∙ get_or-append l m 0 i h

  pub shows_two : Shows I k (l ++ m) → Shows I (k + length l) m
  shows_two a i h = ap (λ (x : ℕ). get_or I x 0) (add_assoc k (length l) i) ∙ a (length l + i) (rw length-append (omega arith)) ∙ get_or-append-add l m i 0

-- what is stored is shown; what stands elsewhere still is
module _ (I : List ℕ) (at : ℕ) (vs : List ℕ) (h : at + length vs ≤ length I) where
  pub shows_stored : Shows (splice I at vs) at vs
  shows_stored i q = splice_in I at vs h i q

  pub shows_before : (k : ℕ) (l : List ℕ) → k + length l ≤ at → Shows I k l → Shows (splice I at vs) k l
  shows_before k l a s i q = splice_before I at vs h (k + i) (omega arith) ∙ s i q

  pub shows_after : (k : ℕ) (l : List ℕ) → at + length vs ≤ k → Shows I k l → Shows (splice I at vs) k l
  shows_after k l a s i q = splice-after I at vs h (k + i) (omega arith) ∙ s i q

-- A directory's own entry renewed: its size and its time are stored, and the rest of it stays.
pub own_stored : (B e : ℕ) (I : List ℕ) (k : ℕ) (s u : Tree e) (n : Name) (c c' : ℕ) → blocks_at u ≡ blocks_at s → k + 17 ≤ length I
    → Shows I k (entry_bytes (view B (suc e)) (record { name = n; time = c; node = sub s }))
    → Shows (splice (splice I (k + 5) (bytes 4 (sum u))) (k + 9) (bytes 8 c')) k (entry_bytes (view B (suc e)) (record { name = n; time = c'; node = sub u }))
unfolding entry_bytes view address_of size_of kind_of
own_stored B e I k s u n c c' q h a =
    let A : List ℕ = 0 ∷ bytes 4 (blocks_at s) in
    let N : List ℕ = length n ∷ n in
    let la : length (bytes 4 (blocks_at s)) ≡ 4 = length_bytes 4 (blocks_at s) in
    let ls : length (bytes 4 (sum s)) ≡ 4 = length_bytes 4 (sum s) in
    let lu : length (bytes 4 (sum u)) ≡ 4 = length_bytes 4 (sum u) in
    let lc : length (bytes 8 c) ≡ 8 = length_bytes 8 c in
    let lt : length (bytes 8 c') ≡ 8 = length_bytes 8 c' in
    let J : List ℕ = splice I (k + 5) (bytes 4 (sum u)) in
    let hI : k + 5 + length (bytes 4 (sum u)) ≤ length I = omega arith in
    let hJ : k + 9 + length (bytes 8 c') ≤ length J = omega (arith, length-splice I (k + 5) (bytes 4 (sum u)) hI) in
    let both : length (A ++ bytes 4 (sum s)) ≡ 9 = rw length-append (omega arith) in
    let both' : length (A ++ bytes 4 (sum u)) ≡ 9 = rw length-append (omega arith) in
    let a₁ : Shows I k A = shows_one I k A (bytes 4 (sum s)) (shows_one I k (A ++ bytes 4 (sum s)) (bytes 8 c ++ N) a) in
    let a₂ : Shows I (k + 9 + 8) N = rw (both, lc) at (shows_two I (k + length (A ++ bytes 4 (sum s))) (bytes 8 c) N (shows_two I k (A ++ bytes 4 (sum s)) (bytes 8 c ++ N) a)) in
    let K : List ℕ = splice J (k + 9) (bytes 8 c') in
    let b₁ : Shows K k A = shows_before J (k + 9) (bytes 8 c') hJ k A (omega arith) (shows_before I (k + 5) (bytes 4 (sum u)) hI k A (omega arith) a₁) in
    let b₂ : Shows K (k + length A) (bytes 4 (sum u))
    = shows_before J (k + 9) (bytes 8 c') hJ (k + length A) (bytes 4 (sum u)) (omega arith) (subst (λ (z : ℕ). Shows J z (bytes 4 (sum u))) (let r : k + 5 ≡ k + length A = omega arith in r) (shows_stored I (k + 5) (bytes 4 (sum u)) hI)) in
    let b₃ : Shows K (k + 9) (bytes 8 c') = shows_stored J (k + 9) (bytes 8 c') hJ in
    let b₄ : Shows K (k + 9 + 8) N = shows_after J (k + 9) (bytes 8 c') hJ (k + 9 + 8) N (omega arith) (shows_after I (k + 5) (bytes 4 (sum u)) hI (k + 9 + 8) N (omega arith) a₂) in
    subst (λ (z : ℕ). Shows K k ((0 ∷ (bytes 4 z ++ bytes 4 (sum u))) ++ (bytes 8 c' ++ N))) (sym q)
    (shows_both K k (A ++ bytes 4 (sum u)) (bytes 8 c' ++ N) (shows_both K k A (bytes 4 (sum u)) b₁ b₂)
    (rw both' (shows_both K (k + 9) (bytes 8 c') N b₃ (rw lt b₄))))
