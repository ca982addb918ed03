-- The free blocks in reach, in the order in which they are given out: of the tree, on the image, and after some are taken.
use mathlib.Core.Path.{◌≡◌, refl, sym, ap, ◌∙◌, subst}
use mathlib.Core.Logic.{◌↔◌}
use mathlib.Core.List.{List, [], ◌∷◌}
use Prim.Native.Nat.{ℕ, zero, suc, ◌+◌, ◌-◌, ◌*◌, ◌≤◌, ◌<◌}
use native.Mathlib.Nat.{add-zero, zero-add}
use native.Mathlib.Decide.{ℕ_discrete, dec_lt}
use native.Mathlib.Omega.{arith}
use lib.ListN.{length, take, drop}
use lib.Seq.{drop-nil}
use borrow.Author.Tests.{eq-eqb, ne_eqb}
use Rattle.wire.proofs.Picks.{pick_true, pick_false}
use Rattle.bits.specs.Bit.{bit, ones}
use Rattle.bits.proofs.Bits.{bit-lt, ones_none}
use Rattle.model.specs.Tree.{Tree}
use Rattle.model.specs.Render.{blocks, count}
use Rattle.model.specs.Geometry.{Geo, block_size, map_at, data_at, reach, map_bits, Sound}
use Rattle.model.specs.Volume.{Volume}
use Rattle.model.specs.Calls.{clear_from, free_blocks}
use Rattle.model.proofs.Counts.{count_same, count_other, count_none}
use Rattle.model.proofs.Areas.{area}

-- ---- the clear ones of k addresses from a on

-- Of no addresses there is none.
clear_none : (f : ℕ → ℕ) (a : ℕ) → clear_from f a 0 ≡ []
unfolding clear_from
clear_none f a = refl

-- The first is clear, so it stands first.
clear_here : (f : ℕ → ℕ) (a k : ℕ) → f a ≡ 0 → clear_from f a (suc k) ≡ a ∷ clear_from f (suc a) k
unfolding clear_from
clear_here f a k z = pick_true _ _ (eq-eqb (f a) 0 z)

-- The first is marked, so the others are looked at.
clear_there : (f : ℕ → ℕ) (a k : ℕ) → (f a ≡ 0 → ⊥) → clear_from f a (suc k) ≡ clear_from f (suc a) k
unfolding clear_from
clear_there f a k z = pick_false _ _ (ne_eqb (f a) 0 z)

-- Two marks call the same ones of k addresses from a on clear.
abbrev pub SameClear : (ℕ → ℕ) → (ℕ → ℕ) → ℕ → ℕ → Type 0
SameClear f h a k = (b : ℕ) → a ≤ b → b < a + k → (f b ≡ 0) ↔ (h b ≡ 0)

-- Then the clear ones are the same.
pub clear_ext : (f h : ℕ → ℕ) (a k : ℕ) → SameClear f h a k → clear_from f a k ≡ clear_from h a k
clear_ext f h a zero s = clear_none f a ∙ sym (clear_none h a)
clear_ext f h a (suc k) s = go (ℕ_discrete (f a) 0) (s a (omega arith) (omega arith)) (clear_ext f h (suc a) k (λ b p q. s b (omega arith) (omega arith)))
  where
    go : Dec (f a ≡ 0) → (f a ≡ 0) ↔ (h a ≡ 0) → clear_from f (suc a) k ≡ clear_from h (suc a) k → clear_from f a (suc k) ≡ clear_from h a (suc k)
    go (yes z) e r = clear_here f a k z ∙ ap (λ (l : List ℕ). a ∷ l) r ∙ sym (clear_here h a k (e.0 z))
    go (no z) e r = clear_there f a k z ∙ r ∙ sym (clear_there h a k (λ y. z (e.1 y)))

-- ---- which they are

-- An address that is not of these k or is marked is not among them.
clear_out : (f : ℕ → ℕ) (a k b : ℕ) → (a ≤ b → b < a + k → f b ≡ 0 → ⊥) → count b (clear_from f a k) ≡ 0
clear_out f a zero b h = ap (count b) (clear_none f a) ∙ count_none b
clear_out f a (suc k) b h = go (ℕ_discrete (f a) 0) (clear_out f (suc a) k b (λ p q z. h (omega arith) (omega arith) z))
  where
    go : Dec (f a ≡ 0) → count b (clear_from f (suc a) k) ≡ 0 → count b (clear_from f a (suc k)) ≡ 0
    go (yes z) r = ap (count b) (clear_here f a k z) ∙ count_other b a (clear_from f (suc a) k) (λ e. h (omega arith) (omega arith) (ap f e ∙ z)) ∙ r
    go (no z) r = ap (count b) (clear_there f a k z) ∙ r

-- A clear address of the k from a on is among them, once.
clear_in_lem : (f : ℕ → ℕ) (a k b : ℕ) → a ≤ b → b < a + k → f b ≡ 0 → count b (clear_from f a k) ≡ 1
clear_in_lem f a zero b p q z = absurd (omega arith)
clear_in_lem f a (suc k) b p q z = go (ℕ_discrete b a) (ℕ_discrete (f a) 0) (λ h. clear_in_lem f (suc a) k b h (omega arith) z)
  where
    go : Dec (b ≡ a) → Dec (f a ≡ 0) → (suc a ≤ b → count b (clear_from f (suc a) k) ≡ 1) → count b (clear_from f a (suc k)) ≡ 1
    go (yes e) (yes y) r =
        ap (count b) (clear_here f a k y) ∙ count_same b a (clear_from f (suc a) k) e ∙ ap suc (clear_out f (suc a) k b (λ h _ _. omega arith))
    go (yes e) (no y) r = absurd (y (ap f (sym e) ∙ z))
    go (no e) (yes y) r = ap (count b) (clear_here f a k y) ∙ count_other b a (clear_from f (suc a) k) e ∙ r (omega arith)
    go (no e) (no y) r = ap (count b) (clear_there f a k y) ∙ r (omega arith)

-- What is among them is of these k, and clear.
clear_found : (f : ℕ → ℕ) (a k b : ℕ) → 1 ≤ count b (clear_from f a k) → (a ≤ b) × (b < a + k) × (f b ≡ 0)
clear_found f a k b h = go (dec_lt b a) (dec_lt b (a + k)) (ℕ_discrete (f b) 0)
  where
    go : Dec (b < a) → Dec (b < a + k) → Dec (f b ≡ 0) → (a ≤ b) × (b < a + k) × (f b ≡ 0)
    go (yes p) q z = absurd (omega (arith, clear_out f a k b (λ p' _ _. omega arith)))
    go (no p) (no q) z = absurd (omega (arith, clear_out f a k b (λ _ q' _. q q')))
    go (no p) (yes q) (no z) = absurd (omega (arith, clear_out f a k b (λ _ _ z'. z z')))
    go (no p) (yes q) (yes z) = (omega arith, q, z)

-- None is among them twice.
clear_once : (f : ℕ → ℕ) (a k b : ℕ) → count b (clear_from f a k) ≤ 1
clear_once f a k b = go (dec_lt 0 (count b (clear_from f a k)))
  where
    go : Dec (0 < count b (clear_from f a k)) → count b (clear_from f a k) ≤ 1
    go (yes h) = let r = clear_found f a k b h in omega (arith, clear_in_lem f a k b r.0 r.1 r.2)
    go (no h) = omega arith

-- ---- the first of them, and what taking it does

-- b is the lowest clear one, and the others are those above it.
pub record LowestClear (f : ℕ → ℕ) (a k b : ℕ) (others : List ℕ) : Type 0 where
  pub from : a ≤ b
  pub below : b < a + k
  pub clear : f b ≡ 0
  pub lowest : (c : ℕ) → a ≤ c → c < b → f c ≡ 0 → ⊥
  pub above : others ≡ clear_from f (suc b) (a + k - suc b)

-- What stands first is the lowest.
pub clear_lowest : (f : ℕ → ℕ) (a k b : ℕ) (others : List ℕ) → clear_from f a k ≡ b ∷ others → LowestClear f a k b others
clear_lowest f a zero b others e = let n = clear_none f a in let z : ◌≡◌ {A = ℕ} 0 1 = cc in absurd (omega arith)
clear_lowest f a (suc k) b others e = go (ℕ_discrete (f a) 0) (clear_lowest f (suc a) k b others)
  where
    go : Dec (f a ≡ 0) → (clear_from f (suc a) k ≡ b ∷ others → LowestClear f (suc a) k b others) → LowestClear f a (suc k) b others
    go (yes z) r =
        let both : a ∷ clear_from f (suc a) k ≡ b ∷ others = sym (clear_here f a k z) ∙ e in
        let x : a ≡ b = cc in
        let y : clear_from f (suc a) k ≡ others = cc in
        let m : a + suc k - suc a ≡ k = omega arith in
        subst (λ (c : ℕ). LowestClear f a (suc k) c others) x
        (record { from = omega arith; below = omega arith; clear = z; lowest = λ c p q _. omega arith; above = rw m (sym y) })
    go (no z) r =
        let l = r (sym (clear_there f a k z) ∙ e) in
        let m : suc a + k - suc b ≡ a + suc k - suc b = omega arith in
        record { from = omega (arith, l.from); below = omega (arith, l.below); clear = l.clear; lowest = λ c p q y. at_or_above l c p q y (ℕ_discrete c a); above = rw m at l.above }
      where
        at_or_above : LowestClear f (suc a) k b others → (c : ℕ) → a ≤ c → c < b → f c ≡ 0 → Dec (c ≡ a) → ⊥
        at_or_above l c p q y (yes x) = z (ap f (sym x) ∙ y)
        at_or_above l c p q y (no x) = l.lowest c (omega arith) q y

-- The lowest stands first.
pub lowest_clear : (f : ℕ → ℕ) (a k b : ℕ) (others : List ℕ) → LowestClear f a k b others → clear_from f a k ≡ b ∷ others
lowest_clear f a zero b others l = absurd (omega arith)
lowest_clear f a (suc k) b others l = go (ℕ_discrete a b) (lowest_clear f (suc a) k b others)
  where
    go : Dec (a ≡ b) → (LowestClear f (suc a) k b others → clear_from f (suc a) k ≡ b ∷ others) → clear_from f a (suc k) ≡ b ∷ others
    go (yes e) r =
        let m : a + suc k - suc b ≡ k = omega arith in
        let y : others ≡ clear_from f (suc b) k = rw m at l.above in
        clear_here f a k (ap f e ∙ l.clear) ∙ (λ i. e i ∷ clear_from f (suc (e i)) k) ∙ ap (λ (z : List ℕ). b ∷ z) (sym y)
    go (no e) r =
        let m : a + suc k - suc b ≡ suc a + k - suc b = omega arith in
        clear_there f a k (λ z. l.lowest a (omega arith) (omega (arith, l.from)) z)
        ∙ r (record { from = omega (arith, l.from); below = omega (arith, l.below); clear = l.clear; lowest = λ c p q. l.lowest c (omega arith) q; above = rw m at l.above })

-- Marking the first j leaves the others, in order.
clear_drop : (f : ℕ → ℕ) (a k j : ℕ) → clear_from (λ b. f b + count b (take j (clear_from f a k))) a k ≡ drop j (clear_from f a k)
clear_drop f a zero j = clear_none _ a ∙ sym (ap (drop j) (clear_none f a) ∙ drop-nil j)
clear_drop f a (suc k) j = go (ℕ_discrete (f a) 0) j (clear_drop f (suc a) k)
  where
    left : List ℕ
    left = clear_from f (suc a) k

    Left : ℕ → List ℕ → Type 0
    Left j l = clear_from (λ b. f b + count b (take j l)) a (suc k) ≡ drop j l

    go : Dec (f a ≡ 0) → (j : ℕ) → ((i : ℕ) → clear_from (λ b. f b + count b (take i left)) (suc a) k ≡ drop i left) → Left j (clear_from f a (suc k))
    go (yes z) zero r = clear_ext (λ b. f b + count b []) f a (suc k) (λ b _ _. (λ y. omega arith, λ y. omega (arith, count_none b)))
    go (yes z) (suc i) r =
        subst (Left (suc i)) (sym (clear_here f a k z))
        (clear_there (λ b. f b + count b (a ∷ take i left)) a k (λ y. omega (arith, count_same a a (take i left) refl))
        ∙ clear_ext (λ b. f b + count b (a ∷ take i left)) (λ b. f b + count b (take i left)) (suc a) k
        (λ b p _. let e = count_other b a (take i left) (omega arith) in (λ y. omega arith, λ y. omega arith))
        ∙ r i)
    go (no z) j r =
        subst (Left j) (sym (clear_there f a k z)) (clear_there (λ b. f b + count b (take j left)) a k (λ y. z (omega arith)) ∙ r j)

-- So does any mark that calls just these marked besides.
clear_taken : (f h : ℕ → ℕ) (a k j : ℕ) → SameClear h (λ b. f b + count b (take j (clear_from f a k))) a k → clear_from h a k ≡ drop j (clear_from f a k)
clear_taken f h a k j s = clear_ext h (λ b. f b + count b (take j (clear_from f a k))) a k s ∙ clear_drop f a k j

-- One allocation: where the first alone is marked besides, the others are left.
pub clear_next : (f h : ℕ → ℕ) (a k b : ℕ) (others : List ℕ) → clear_from f a k ≡ b ∷ others → (h b ≡ 0 → ⊥)
    → ((c : ℕ) → a ≤ c → c < a + k → (c ≡ b → ⊥) → (h c ≡ 0) ↔ (f c ≡ 0)) → clear_from h a k ≡ others
clear_next f h a k b others e m s = clear_taken f h a k 1 (λ c p q. go c p q (ℕ_discrete c b)) ∙ ap (drop 1) e
  where
    one : take 1 (clear_from f a k) ≡ b ∷ []
    one = ap (take 1) e

    go : (c : ℕ) → a ≤ c → c < a + k → Dec (c ≡ b) → (h c ≡ 0) ↔ (f c + count c (take 1 (clear_from f a k)) ≡ 0)
    go c p q (yes x) = (λ y. absurd (m (ap h (sym x) ∙ y)), λ y. omega (arith, ap (count c) one, count_same c b [] x))
    go c p q (no x) =
        let n : count c (take 1 (clear_from f a k)) ≡ 0 = ap (count c) one ∙ count_other c b [] x ∙ count_none c in
        let r = s c p q x in
        (λ y. omega (arith, r.0 y), λ y. r.1 (omega arith))

-- ---- the clear bits of an image

module _ (I : List ℕ) (from D : ℕ) where
  -- the same from bit x on
  counted : (k x : ℕ) → length (clear_from (λ b. bit I from (b - D)) (D + x) k) + ones I from (x + k) ≡ k + ones I from x
  unfolding ones
  counted zero x = rw (clear_none (λ b. bit I from (b - D)) (D + x), add-zero x)
  counted (suc k) x = go (ℕ_discrete (bit I from x) 0) (counted k (suc x))
    where
      f : ℕ → ℕ
      f b = bit I from (b - D)

      here : f (D + x) ≡ bit I from x
      here = let e : D + x - D ≡ x = omega arith in ap (bit I from) e

      moved : length (clear_from f (suc (D + x)) k) ≡ length (clear_from f (D + suc x) k)
      moved = let e : suc (D + x) ≡ D + suc x = omega arith in ap (λ (a : ℕ). length (clear_from f a k)) e

      along : ones I from (x + suc k) ≡ ones I from (suc x + k)
      along = let e : x + suc k ≡ suc x + k = omega arith in ap (ones I from) e

      go : Dec (bit I from x ≡ 0) → length (clear_from f (D + suc x) k) + ones I from (suc x + k) ≡ k + ones I from (suc x)
          → length (clear_from f (D + x) (suc k)) + ones I from (x + suc k) ≡ suc k + ones I from x
      go (yes z) r = omega (arith, ap length (clear_here f (D + x) k (here ∙ z)), moved, along)
      go (no z) r = omega (arith, ap length (clear_there f (D + x) k (λ y. z (sym here ∙ y))), moved, along, bit-lt I from x)

  -- Of k bits, those that are clear and those that are set are all.
  pub clear_count : (k : ℕ) → length (clear_from (λ b. bit I from (b - D)) D k) + ones I from k ≡ k
  clear_count k = rw (add-zero D, zero-add k) at (counted k 0) ∙ omega (arith, ones_none I from)

-- ---- the free blocks of a volume

-- They are those whose bits are clear.
pub free_image : (g : Geo) (I : List ℕ) (d : ℕ) (t : Tree d) → Volume g I d t
    → free_blocks g d t ≡ clear_from (λ b. bit I (block_size g * map_at g) (b - data_at g)) (data_at g) (reach g)
unfolding free_blocks
free_image g I d t v =
    clear_ext (λ b. count b (blocks (block_size g) d t)) (λ b. bit I (block_size g * map_at g) (b - data_at g)) (data_at g) (reach g)
    (λ b p q. (λ z. is b p q ∙ z, λ z. sym (is b p q) ∙ z))
  where
    is : (b : ℕ) → data_at g ≤ b → b < data_at g + reach g → bit I (block_size g * map_at g) (b - data_at g) ≡ count b (blocks (block_size g) d t)
    is b p q =
        let a = area g (length I) v.laid.sound in
        let e : data_at g + (b - data_at g) ≡ b = omega arith in
        v.marked (b - data_at g) (omega (arith, a.has_bits)) ∙ ap (λ (c : ℕ). count c (blocks (block_size g) d t)) e

module _ (g : Geo) (d : ℕ) (t : Tree d) where
  -- No free block is there twice.
  pub free_once : (b : ℕ) → count b (free_blocks g d t) ≤ 1
  unfolding free_blocks
  free_once b = clear_once (λ c. count c (blocks (block_size g) d t)) (data_at g) (reach g) b

  -- A free block is one of D..n-1, has a bit, and is not reached.
  pub free_found : (len : ℕ) → Sound g len → (b : ℕ) → 1 ≤ count b (free_blocks g d t) → (data_at g ≤ b) × (b < g.n) × (count b (blocks (block_size g) d t) ≡ 0)
  unfolding free_blocks
  free_found len s b h =
      let r = clear_found (λ c. count c (blocks (block_size g) d t)) (data_at g) (reach g) b h in
      (r.0, omega (arith, r.1, (area g len s).reached), r.2)

  pub free_bits : (len : ℕ) → Sound g len → (b : ℕ) → 1 ≤ count b (free_blocks g d t) → b < data_at g + map_bits g
  unfolding free_blocks
  free_bits len s b h =
      let r = clear_found (λ c. count c (blocks (block_size g) d t)) (data_at g) (reach g) b h in
      omega (arith, r.1, (area g len s).has_bits)
