-- The laws of blocks over the block size: what each reader sees after each store. Callers cite these and unfold none of the definitions.
use mathlib.Core.Path.{◌≡◌, refl, ap, ◌∙◌}
use mathlib.Core.Logic.{◌⊎◌, inl, inr}
use mathlib.Core.List.{List}
use Prim.Native.Nat.{ℕ, ◌+◌, ◌-◌, ◌*◌, ◌^◌, ◌≤◌, ◌<◌}
use native.Mathlib.Nat.{add-zero, add_assoc, mul-suc, mul-add, mul-le-mul_left, mul-le-mul_right}
use native.Mathlib.Decide.{dec_lt}
use native.Mathlib.Omega.{arith}
use lib.ListN.{length, get_or, length-replicate, get_or-replicate}
use Rattle.wire.specs.Be.{be, bytes, splice, zeros}
use Rattle.wire.proofs.Numbers.{be_ext, length_bytes, length-splice, splice_before, splice_in, splice-after}
use Rattle.block.specs.Block.{BlockSize, cell, next, linked, zeroed, Off, Kept}

-- ---- places: a block's bytes end where the next block's begin

pub block_below : (B a b o : ℕ) → a < b → o < B → B * a + o < B * b
block_below B a b o h k = omega (arith, mul-le-mul_left B h, mul-suc B a)

-- and so is one behind it in the block
pub link_fits : {B r : ℕ} (a : ℕ) → BlockSize B → a < 2 ^ 32 → r ≡ B * a → r + 4 < 2 ^ 64
link_fits a s h e = omega (arith, mul-le-mul_right a s.most)

pub behind_fits : {B r : ℕ} (a o : ℕ) → BlockSize B → a < 2 ^ 32 → r ≡ B * a → o ≤ B → r + 4 + o < 2 ^ 64
behind_fits a o s h e l = omega (arith, mul-le-mul_right a s.most, s.most)

-- the linked block of an address lies where the block does
pub linked_inside : {B z m n : ℕ} (a : ℕ) → z ≡ B → m ≡ a → B * a + B ≤ n → z * m + z ≤ n
linked_inside a e f h = rw (e, f) h

-- what code reads is the next address
pub next_is : (B : ℕ) (I : List ℕ) (a r v : ℕ) → r ≡ B * a → v ≡ be 4 I r → v ≡ next B I a
unfolding next
next_is B I a r v e h = h ∙ ap (be 4 I) e

-- what code stores is the link
pub linked_is : (B : ℕ) (I J : List ℕ) (a r to v : ℕ) → r ≡ B * a → v ≡ to → J ≡ splice I r (bytes 4 v) → J ≡ linked B I a to
unfolding linked
linked_is B I J a r to v e q h = h ∙ (λ i. splice I (e i) (bytes 4 (q i)))

-- ---- Kept: the frame

pub kept_refl : {B : ℕ} {P : ℕ → ℕ → Type 0} (I : List ℕ) → Kept B P I I
kept_refl I = record { size = refl; at = λ b o p h. refl }

pub kept_trans : {B : ℕ} {P : ℕ → ℕ → Type 0} {I J L : List ℕ} → Kept B P I J → Kept B P J L → Kept B P I L
kept_trans p q = record { size = q.size ∙ p.size; at = λ b o h k. q.at b o h k ∙ p.at b o h k }

pub kept_less : {B : ℕ} {P Q : ℕ → ℕ → Type 0} {I J : List ℕ} → ((b o : ℕ) → Q b o → P b o) → Kept B P I J → Kept B Q I J
kept_less f p = record { size = p.size; at = λ b o h k. p.at b o (f b o h) k }

-- a number past a store that keeps its bytes; so the next address
module _ (B : ℕ) (P : ℕ → ℕ → Type 0) (I J : List ℕ) (k : Kept B P I J) where
  pub be_kept : (n a o : ℕ) → o + n ≤ B → ((p : ℕ) → o ≤ p → p < o + n → P a p) → be n J (B * a + o) ≡ be n I (B * a + o)
  unfolding cell
  be_kept n a o h f =
      be_ext n J I (B * a + o) (B * a + o) (λ i q. rw add_assoc (k.at a (o + i) (f (o + i) (omega arith) (omega arith)) (omega arith)))

  pub next_kept : (a : ℕ) → 4 ≤ B → ((p : ℕ) → p < 4 → P a p) → next B J a ≡ next B I a
  unfolding next
  next_kept a h f = rw add-zero at (be_kept 4 a 0 h (λ p _ q. f p q))

-- ---- each store

-- a splice inside one block
module _ (B : ℕ) (I : List ℕ) (a o : ℕ) (vs : List ℕ) (h : o + length vs ≤ B) (k : B * a + B ≤ length I) where
  fits : B * a + o + length vs ≤ length I
  fits = omega arith

  pub splice_kept : Kept B (Off a o (length vs)) I (splice I (B * a + o) vs)
  unfolding cell
  splice_kept = record { size = length-splice I (B * a + o) vs fits; at = λ b p f q. go b p f q (dec_lt b a) (dec_lt a b) (dec_lt p o) }
    where
      go : (b p : ℕ) → Off a o (length vs) b p → p < B → Dec (b < a) → Dec (a < b) → Dec (p < o) → get_or (splice I (B * a + o) vs) (B * b + p) 0 ≡ get_or I (B * b + p) 0
      go b p f q (yes l) m n = splice_before I (B * a + o) vs fits (B * b + p) (omega (arith, block_below B b a p l q))
      go b p f q (no l) (yes m) n = splice-after I (B * a + o) vs fits (B * b + p) (omega (arith, mul-le-mul_left B m, mul-suc B a))
      go b p f q (no l) (no m) (yes n) = let e : b ≡ a = omega arith in rw e (splice_before I (B * a + o) vs fits (B * a + p) (omega arith))
      go b p f q (no l) (no m) (no n) =
          let e : b ≡ a = omega arith in
          rw e (splice-after I (B * a + o) vs fits (B * a + p) (past b p e f (dec_lt p (o + length vs)) (omega arith)))
        where
          past : (b p : ℕ) → b ≡ a → Off a o (length vs) b p → Dec (p < o + length vs) → o ≤ p → B * a + o + length vs ≤ B * a + p
          past b p e f (yes x) y = absurd (f e y x)
          past b p e f (no x) y = omega arith

module _ (B : ℕ) (I : List ℕ) (a : ℕ) (h : 4 ≤ B) (k : B * a + B ≤ length I) where
  pub linked_kept : (v : ℕ) → Kept B (Off a 0 4) I (linked B I a v)
  unfolding linked
  linked_kept v = rw (add-zero, length_bytes 4 v) at (splice_kept B I a 0 (bytes 4 v) (omega (arith, length_bytes 4 v)) k)

-- a fill with 0 of as many bytes as k blocks have, from the first block's place on, zeroes them
pub zeroed_is : (B a k at n : ℕ) (I J : List ℕ) → at ≡ B * a → n ≡ B * k → J ≡ splice I at (zeros n) → J ≡ zeroed B I a k
unfolding zeroed
zeroed_is B a k at n I J p q h = h ∙ ap (λ (x : ℕ). splice I x (zeros n)) p ∙ ap (λ (x : ℕ). splice I (B * a) (zeros x)) q

-- a run of blocks zeroed
module _ (B : ℕ) (I : List ℕ) (a n : ℕ) (k : B * a + B * n ≤ length I) where
  room : B * a + length (zeros (B * n)) ≤ length I
  room = omega (arith, length-replicate {A = ℕ} (B * n) 0)

  pub zeroed_kept : Kept B (λ b o. (b < a) ⊎ (a + n ≤ b)) I (zeroed B I a n)
  unfolding zeroed cell
  zeroed_kept = record { size = length-splice I (B * a) (zeros (B * n)) room; at = λ b o p q. go b o p q }
    where
      go : (b o : ℕ) → (b < a) ⊎ (a + n ≤ b) → o < B → get_or (splice I (B * a) (zeros (B * n))) (B * b + o) 0 ≡ get_or I (B * b + o) 0
      go b o (inl l) q = splice_before I (B * a) (zeros (B * n)) room (B * b + o) (block_below B b a o l q)
      go b o (inr l) q =
          splice-after I (B * a) (zeros (B * n)) room (B * b + o)
          (omega (arith, mul-le-mul_left B l, mul-add B a n, length-replicate {A = ℕ} (B * n) 0))

  pub byte_zeroed : (j : ℕ) → j < B * n → get_or (zeroed B I a n) (B * a + j) 0 ≡ 0
  unfolding zeroed
  byte_zeroed j h =
      splice_in I (B * a) (zeros (B * n)) room j (omega (arith, length-replicate {A = ℕ} (B * n) 0)) ∙ get_or-replicate {A = ℕ} (B * n) j 0 0 h

  pub cell-zeroed : (b o : ℕ) → a ≤ b → b < a + n → o < B → cell B (zeroed B I a n) b o ≡ 0
  unfolding cell
  cell-zeroed b o l m q =
      let c : ℕ = b - a in
      let e : b ≡ a + c = omega arith in
      let f : B * c + o < B * n = block_below B c n o (omega arith) q in
      let z : B * b + o ≡ B * a + (B * c + o) = ap (λ (x : ℕ). B * x + o) e ∙ omega (arith, mul-add B a c) in
      rw z (byte_zeroed (B * c + o) f)
