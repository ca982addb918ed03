-- How code copies the bytes of a chain: a run of each block at a time.
use mathlib.Core.Path.{◌≡◌, refl, sym, ap, ◌∙◌}
use mathlib.Core.Option.{Option, none, some}
use mathlib.Core.List.{List, [], ◌++◌, append-nil}
use Prim.Native.Nat.{ℕ, suc, ◌+◌, ◌-◌, ◌*◌, ◌/◌, ◌≤◌, ◌<◌, min}
use native.Mathlib.Nat.{div-eq_of_lt, add-div_left, lt-mul-div-succ}
use native.Mathlib.Decide.{dec_lt}
use native.Mathlib.Omega.{arith}
use lib.ListN.{length, take, drop, length-take, length-drop}
use lib.Seq.{take-take, take-add, drop-drop, drop_at, take-append-le, drop-append-le, take-append-add, length-take-le}
use Rattle.wire.specs.Be.{splice}
use Rattle.wire.proofs.Numbers.{splice-append, splice-nil}
use Rattle.block.specs.Block.{Area, next}
use Rattle.super_block.specs.declared.SuperBlock.{SuperBlock}
use Rattle.super_block.specs.Super.{area_in, Fit}
use Rattle.file_read.specs.Read.{chain, blocks_read, data_of, bytes_of}
use Rattle.file_read.specs.Post.{part_at, Whole}
use Rattle.file_read.proofs.Chains.{missing-some, not_missing, Head, chain_head, chain_length, chain_area, block_fits, data_length}
use Rattle.file_read.proofs.Follows.{blocks-none, blocks-some}

-- ---- lists

drop-take : (o m : ℕ) (l : List ℕ) → o ≤ m → m ≤ length l → drop o (take m l) ≡ take (m - o) (drop o l)
drop-take o m l h k =
    let e : m ≡ o + (m - o) = omega arith in
    ap (λ (x : ℕ). drop o (take x l)) e
    ∙ ap (drop o) (take-add o (m - o) l)
    ∙ drop_at (take o l) (take (m - o) (drop o l)) o (length-take-le o l (omega arith))

-- j bytes from offset o of the first m bytes of l, and then of R: those in l, and the others
run_split : (o m j r : ℕ) (l R : List ℕ) → o ≤ m → m ≤ length l → r ≡ min j (m - o) → take j (drop o (take m l ++ R)) ≡ take r (drop o l) ++ take (j - r) R
run_split o m j r l R h k e = go (dec_lt j (m - o))
  where
    d : drop o (take m l ++ R) ≡ take (m - o) (drop o l) ++ R
    d = drop-append-le o (take m l) R (omega (arith, length-take-le m l k)) ∙ ap (λ (x : List ℕ). x ++ R) (drop-take o m l h k)

    long : length (take (m - o) (drop o l)) ≡ m - o
    long = simp (length-take, length-drop) (omega arith)

    go : Dec (j < m - o) → take j (drop o (take m l ++ R)) ≡ take r (drop o l) ++ take (j - r) R
    go (yes q) =
        let x : r ≡ j = omega arith in
        let y : j - r ≡ 0 = omega arith in
        ap (take j) d
        ∙ take-append-le j (take (m - o) (drop o l)) R (omega (arith, long))
        ∙ take-take j (m - o) (drop o l) (omega arith)
        ∙ sym (append-nil (take j (drop o l)))
        ∙ ap (λ (z : List ℕ). take j (drop o l) ++ z) (ap (λ (z : ℕ). take z R) (sym y))
        ∙ ap (λ (z : ℕ). take z (drop o l) ++ take (j - r) R) (sym x)
    go (no q) =
        let x : r ≡ m - o = omega arith in
        let y : j ≡ length (take (m - o) (drop o l)) + (j - r) = omega (arith, long) in
        ap (take j) d
        ∙ ap (λ (z : ℕ). take z (take (m - o) (drop o l) ++ R)) y
        ∙ take-append-add (take (m - o) (drop o l)) R (j - r)
        ∙ ap (λ (z : ℕ). take z (drop o l) ++ take (j - r) R) (sym x)

-- ---- the bytes along a chain

bytes_none : (A : Area) (I : List ℕ) (c : Option (List ℕ)) (p : ℕ) → bytes_of A I c p 0 ≡ []
bytes_none A I none p = refl
bytes_none A I (some xs) p = refl

-- the blocks of bytes that are there
module _ (A : Area) (I : List ℕ) (a o k : ℕ) (w : Whole A I a o k) where
  found : List ℕ
  found = (not_missing A I (chain A I (blocks_read A I o k) a) w).0

  found_is : chain A I (blocks_read A I o k) a ≡ some found
  unfolding found
  found_is = (not_missing A I (chain A I (blocks_read A I o k) a) w).1

module _ (A : Area) (I : List ℕ) (five : 5 ≤ A.size) (fits : A.size * A.end ≤ length I) where
  abbrev capacity : ℕ
  capacity = A.size - 4

  four : 4 ≤ A.size
  four = omega arith

  -- They are k bytes.
  part_length : (a o k : ℕ) → Whole A I a o k → length (part_at A I a o k) ≡ k
  part_length a o k w = go (dec_lt 0 k)
    where
      xs : List ℕ
      xs = found A I a o k w

      e : chain A I (blocks_read A I o k) a ≡ some xs
      e = found_is A I a o k w

      go : Dec (0 < k) → length (part_at A I a o k) ≡ k
      go (no q) =
          let z : k ≡ 0 = omega arith in
          ap (λ (x : ℕ). length (bytes_of A I (chain A I (blocks_read A I o k) a) o x)) z
          ∙ ap length (bytes_none A I (chain A I (blocks_read A I o k) a) o)
          ∙ sym z
      go (yes q) =
          let u : length xs ≡ (o + (k - 1)) / capacity + 1
          = chain_length A I (blocks_read A I o k) a xs e ∙ blocks-some A I o k q in
          let v : length (data_of A I xs) ≡ capacity * ((o + (k - 1)) / capacity + 1)
          = data_length A I four fits xs (chain_area A I (blocks_read A I o k) a xs e) ∙ ap (λ (x : ℕ). capacity * x) u in
          let w : o + k ≤ length (data_of A I xs)
          = rw v (omega (arith, lt-mul-div-succ (o + (k - 1)) {b = capacity} (omega arith))) in
          ap (λ (x : Option (List ℕ)). length (bytes_of A I x o k)) e
          ∙ simp (length-take, length-drop) (omega arith)

  -- j bytes are left from data byte o of block a on, of which r stand in that block
  module _ (a o j r : ℕ) (ho : o < capacity) (hj : 0 < j) (er : r ≡ min j (capacity - o)) (w : Whole A I a o j) where
    blocks : blocks_read A I o j ≡ suc ((o + (j - 1)) / capacity)
    blocks = blocks-some A I o j hj ∙ omega arith

    head : Head A I ((o + (j - 1)) / capacity) a (found A I a o j w)
    head =
        chain_head A I ((o + (j - 1)) / capacity) a (found A I a o j w)
        (ap (λ (m : ℕ). chain A I m a) (sym blocks) ∙ found_is A I a o j w)

    turn_below : a < A.end
    turn_below = head.below

    turn_fits : A.size * a + A.size ≤ length I
    turn_fits = block_fits A I four fits a turn_below

    left_blocks : blocks_read A I 0 (j - r) ≡ (o + (j - 1)) / capacity
    left_blocks = go (dec_lt 0 (j - r))
      where
        go : Dec (0 < j - r) → blocks_read A I 0 (j - r) ≡ (o + (j - 1)) / capacity
        go (yes q) =
            let x : o + (j - 1) ≡ capacity + (0 + (j - r - 1)) = omega arith in
            blocks-some A I 0 (j - r) q ∙ sym (ap (λ (y : ℕ). y / capacity) x ∙ add-div_left (0 + (j - r - 1)) (omega arith))
        go (no q) =
            let z : j - r ≡ 0 = omega arith in
            ap (blocks_read A I 0) z ∙ blocks-none A I 0 ∙ sym (div-eq_of_lt (omega arith))

    rest_chain : chain A I (blocks_read A I 0 (j - r)) (next A.size I a) ≡ some head.rest
    rest_chain = ap (λ (m : ℕ). chain A I m (next A.size I a)) left_blocks ∙ head.goes

    turn_whole : Whole A I (next A.size I a) 0 (j - r)
    turn_whole = missing-some A I _ head.rest rest_chain

    turn_run : length (take r (drop (A.size * a + 4 + o) I)) ≡ r
    turn_run = simp (length-take, length-drop) (omega (arith, turn_fits))

    turn_bytes : part_at A I a o j ≡ take r (drop (A.size * a + 4 + o) I) ++ part_at A I (next A.size I a) 0 (j - r)
    unfolding data_of
    turn_bytes =
        ap (λ (c : Option (List ℕ)). bytes_of A I c o j) (found_is A I a o j w)
        ∙ ap (λ (xs : List ℕ). take j (drop o (data_of A I xs))) head.is
        ∙ run_split o capacity j r (drop (A.size * a + 4) I) (data_of A I head.rest) (omega arith)
        (rw length-drop (omega (arith, turn_fits))) er
        ∙ ap (λ (l : List ℕ). take r l ++ take (j - r) (data_of A I head.rest)) (drop-drop o (A.size * a + 4) I)
        ∙ ap (λ (c : Option (List ℕ)). take r (drop (A.size * a + 4 + o) I) ++ bytes_of A I c 0 (j - r)) (sym rest_chain)

    turn_splice : (buf : List ℕ) (i : ℕ) → i + j ≤ length buf
        → splice (splice buf i (take r (drop (A.size * a + 4 + o) I))) (i + r) (part_at A I (next A.size I a) 0 (j - r))
        ≡ splice buf i (part_at A I a o j)
    turn_splice buf i h =
        let x : List ℕ = take r (drop (A.size * a + 4 + o) I) in
        let y : List ℕ = part_at A I (next A.size I a) 0 (j - r) in
        let u : length x ≡ r = turn_run in
        let v : length y ≡ j - r = part_length (next A.size I a) 0 (j - r) turn_whole in
        ap (λ (z : ℕ). splice (splice buf i x) (i + z) y) (sym u)
        ∙ splice-append x y buf i (omega arith)
        ∙ ap (splice buf i) (sym turn_bytes)

-- ---- the loop: i of k bytes are copied, and the rest stands from data byte at of block b on

-- what is left to copy is what was to be copied
pub record Left (A : Area) (I buf₀ : List ℕ) (k a₀ o₀ : ℕ) (buf : List ℕ) (b at i : ℕ) : Type 0 where
  pub whole : Whole A I b at (k - i)
  pub same : splice buf i (part_at A I b at (k - i)) ≡ splice buf₀ 0 (part_at A I a₀ o₀ k)

pub pour_starts : (A : Area) (I buf : List ℕ) (k a o : ℕ) → Whole A I a o k → Left A I buf k a o buf a o 0
pour_starts A I buf k a o w =
    let e : k - 0 ≡ k = omega arith in
    record { whole = rw e w; same = rw e }

module _ (s : SuperBlock) (I buf₀ : List ℕ) (a₀ o₀ k : ℕ) (buf : List ℕ) (b at i : ℕ)
    (f : Fit s I) (left : Left (area_in s) I buf₀ k a₀ o₀ buf b at i) where
  pub pour_ends : i ≤ k → k ≤ i → buf ≡ splice buf₀ 0 (part_at (area_in s) I a₀ o₀ k)
  pour_ends h l =
      let e : k - i ≡ 0 = omega arith in
      let x : part_at (area_in s) I b at (k - i) ≡ []
      = ap (λ (j : ℕ). part_at (area_in s) I b at j) e
      ∙ bytes_none (area_in s) I (chain (area_in s) I (blocks_read (area_in s) I at 0) b) at in
      sym (splice-nil buf i) ∙ ap (splice buf i) (sym x) ∙ left.same

  big : 5 ≤ s.size
  big = omega (arith, f.known.least)

  module _ (p : at < s.size - 4) (h : i < k) (r : ℕ) (e : r ≡ min (k - i) (s.size - 4 - at)) where
    inside : s.size * b + s.size ≤ length I
    inside = turn_fits (area_in s) I big f.inside b at (k - i) r p (omega arith) e left.whole

    pub pour_block : b < s.blocks
    pour_block = turn_below (area_in s) I big f.inside b at (k - i) r p (omega arith) e left.whole

    pub pour_from : (from : ℕ) → from ≡ s.size * b + 4 + at → from + r ≤ length I
    pour_from from q = omega (arith, inside)

    pub pour_again : (from to : ℕ) (now : List ℕ) → length buf ≡ length buf₀ → k ≤ length buf₀
        → from ≡ s.size * b + 4 + at → now ≡ splice buf i (take r (drop from I)) → to ≡ next s.size I b
        → Left (area_in s) I buf₀ k a₀ o₀ now to 0 (i + r)
    pour_again from to now t l q u y =
        let j : k - (i + r) ≡ k - i - r = omega arith in
        record {
          whole = rw (j, y) (turn_whole (area_in s) I big f.inside b at (k - i) r p (omega arith) e left.whole);
          same =
              rw (u, q, j, y)
              (turn_splice (area_in s) I big f.inside b at (k - i) r p (omega arith) e left.whole buf i (omega arith)
              ∙ left.same);
        }
