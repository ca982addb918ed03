-- The laws of chains and of the data bytes along them, over the block size.
use mathlib.Core.Path.{◌≡◌, refl, sym, ap, ◌∙◌, subst}
use mathlib.Core.Bool.{true, false}
use mathlib.Core.Logic.{◌⊎◌, inl, inr}
use mathlib.Core.Option.{Option, none, some}
use mathlib.Core.List.{List, [], ◌∷◌, ◌++◌, append_assoc}
use Prim.Native.Nat.{ℕ, zero, suc, ◌+◌, ◌-◌, ◌*◌, ◌≤◌, ◌<◌}
use native.Mathlib.Nat.{zero-add, suc-add, mul-suc, mul-zero, mul-le-mul_left}
use native.Mathlib.Decide.{dec_lt}
use native.Mathlib.Omega.{arith}
use lib.ListN.{length, take, drop, length-append, length-take, length-drop}
use borrow.Author.Tests.{le-leb, lt-leb}
use Rattle.wire.proofs.Picks.{either, not_both, pick_true, pick_false}
use Rattle.block.specs.Block.{Area, next}
use Rattle.model.specs.Tree.{then}
use Rattle.model.specs.Volume.{All}
use Rattle.model.proofs.Lists.{not_some, then_some, then-none}
use Rattle.read_dir.specs.Walk.{in_area}
use Rattle.read_dir.proofs.Unroll.{area_in_lem, area_true}
use Rattle.file_read.specs.Read.{chain, chain_read, data_of, missing}
use Rattle.file_read.specs.Post.{after}

-- ---- options

some_same : {A : Type 0} {x y : A} → some x ≡ some y → x ≡ y
some_same e = cc

module _ (A : Area) (I : List ℕ) where
  pub missing-none : (o : Option (List ℕ)) → o ≡ none → missing A I o ≡ true
  missing-none o e = ap (missing A I) e

  pub missing-some : (o : Option (List ℕ)) (xs : List ℕ) → o ≡ some xs → missing A I o ≡ false
  missing-some o xs e = ap (missing A I) e

  pub not_missing : (o : Option (List ℕ)) → missing A I o ≡ false → (xs : List ℕ) × (o ≡ some xs)
  not_missing none e = absurd (not_both refl e)
  not_missing (some xs) e = (xs, refl)

  -- ---- a chain, block by block

  pub chain-none : (a : ℕ) → chain A I 0 a ≡ some []
  unfolding chain
  chain-none a = refl

  pub chain_out : (m a : ℕ) → in_area A I a ≡ false → chain A I (suc m) a ≡ none
  unfolding chain
  chain_out m a t = pick_false _ _ t

  pub chain_in : (m a : ℕ) → in_area A I a ≡ true → chain A I (suc m) a ≡ then (chain A I m (next A.size I a)) (λ xs. some (a ∷ xs))
  unfolding chain
  chain_in m a t = pick_true _ _ t

  -- a chain that is there: its first block, and the rest
  pub record Head (m a : ℕ) (ys : List ℕ) : Type 0 where
    pub from : A.first ≤ a
    pub below : a < A.end
    pub rest : List ℕ
    pub goes : chain A I m (next A.size I a) ≡ some rest
    pub is : ys ≡ a ∷ rest

  pub chain_head : (m a : ℕ) (ys : List ℕ) → chain A I (suc m) a ≡ some ys → Head m a ys
  chain_head m a ys e = go (either (in_area A I a)) (chain A I m (next A.size I a)) refl
    where
      go : (in_area A I a ≡ true) ⊎ (in_area A I a ≡ false) → (o : Option (List ℕ)) → chain A I m (next A.size I a) ≡ o → Head m a ys
      go (inr t) o q = absurd (not_some (chain_out m a t) e)
      go (inl t) none q = absurd (not_some (chain_in m a t ∙ then-none _ q) e)
      go (inl t) (some xs) q =
          let w = area_true A I a t in
          record { from = w.0; below = w.1; rest = xs; goes = q; is = some_same (sym e ∙ chain_in m a t ∙ then_some (λ zs. some (a ∷ zs)) q) }

  chain-cons : (m a : ℕ) (xs : List ℕ) → A.first ≤ a → a < A.end → chain A I m (next A.size I a) ≡ some xs → chain A I (suc m) a ≡ some (a ∷ xs)
  chain-cons m a xs h k e = chain_in m a (area_in_lem A I a h k) ∙ then_some (λ zs. some (a ∷ zs)) e

  -- ---- what a chain that is there has

  pub chain_length : (m a : ℕ) (xs : List ℕ) → chain A I m a ≡ some xs → length xs ≡ m
  chain_length zero a xs e = ap length (some_same (sym e ∙ chain-none a))
  chain_length (suc m) a xs e =
      let h = chain_head m a xs e in
      ap length h.is ∙ ap suc (chain_length m (next A.size I a) h.rest h.goes)

  pub chain_area : (m a : ℕ) (xs : List ℕ) → chain A I m a ≡ some xs → All (λ (x : ℕ). (A.first ≤ x) × (x < A.end)) xs
  chain_area zero a xs e = subst (All (λ (x : ℕ). (A.first ≤ x) × (x < A.end))) (some_same (sym (chain-none a) ∙ e)) tt
  chain_area (suc m) a xs e =
      let h = chain_head m a xs e in
      subst (All (λ (x : ℕ). (A.first ≤ x) × (x < A.end))) (sym h.is) ((h.from, h.below), chain_area m (next A.size I a) h.rest h.goes)

  -- ---- a read's chain, by its bound

  pub chain_read_lem : (a m : ℕ) → m ≤ A.end - A.first → chain_read A I a m ≡ chain A I m a
  unfolding chain_read
  chain_read_lem a m h = pick_true _ _ (le-leb _ _ h)

  pub chain-over : (a m : ℕ) → A.end - A.first < m → chain_read A I a m ≡ none
  unfolding chain_read
  chain-over a m h = pick_false _ _ (lt-leb _ _ h)

  pub chain_there : (a m : ℕ) (xs : List ℕ) → chain_read A I a m ≡ some xs → (m ≤ A.end - A.first) × (chain A I m a ≡ some xs)
  chain_there a m xs e = go (dec_lt (A.end - A.first) m)
    where
      go : Dec (A.end - A.first < m) → (m ≤ A.end - A.first) × (chain A I m a ≡ some xs)
      go (yes h) = absurd (not_some (chain-over a m h) e)
      go (no h) = let l : m ≤ A.end - A.first = omega arith in (l, sym (chain_read_lem a m l) ∙ e)

  -- ---- a walk along a chain, block by block

  pub after_none : (a : ℕ) → after A I 0 a ≡ some a
  unfolding after
  after_none a = refl

  pub after_out : (m a : ℕ) → in_area A I a ≡ false → after A I (suc m) a ≡ none
  unfolding after
  after_out m a t = pick_false _ _ t

  pub after_in : (m a : ℕ) → in_area A I a ≡ true → after A I (suc m) a ≡ after A I m (next A.size I a)
  unfolding after
  after_in m a t = pick_true _ _ t

  -- where it comes to b: the blocks before b, and the chain from b on
  pub record Split (q a b : ℕ) : Type 0 where
    pub front : List ℕ
    pub long : length front ≡ q
    pub inside : All (λ (x : ℕ). (A.first ≤ x) × (x < A.end)) front
    pub goes : (m : ℕ) (xs : List ℕ) → chain A I m b ≡ some xs → chain A I (q + m) a ≡ some (front ++ xs)
    pub ends : (m : ℕ) → chain A I m b ≡ none → chain A I (q + m) a ≡ none

  pub after-split : (q a b : ℕ) → after A I q a ≡ some b → Split q a b
  after-split zero a b e =
      let f : a ≡ b = some_same (sym (after_none a) ∙ e) in
      record {
        front = [];
        long = refl;
        inside = tt;
        goes = λ m xs g. ap (λ (k : ℕ). chain A I k a) (zero-add m) ∙ ap (chain A I m) f ∙ g;
        ends = λ m g. ap (λ (k : ℕ). chain A I k a) (zero-add m) ∙ ap (chain A I m) f ∙ g;
      }
  after-split (suc q) a b e = go (either (in_area A I a)) (after-split q (next A.size I a) b)
    where
      go : (in_area A I a ≡ true) ⊎ (in_area A I a ≡ false) → (after A I q (next A.size I a) ≡ some b → Split q (next A.size I a) b) → Split (suc q) a b
      go (inr t) r = absurd (not_some (after_out q a t) e)
      go (inl t) r =
          let s = r (sym (after_in q a t) ∙ e) in
          let w = area_true A I a t in
          record {
            front = a ∷ s.front;
            long = ap suc s.long;
            inside = (w, s.inside);
            goes = λ m xs g. ap (λ (k : ℕ). chain A I k a) (suc-add q m) ∙ chain-cons (q + m) a (s.front ++ xs) w.0 w.1 (s.goes m xs g);
            ends = λ m g. ap (λ (k : ℕ). chain A I k a) (suc-add q m) ∙ chain_in (q + m) a t ∙ then-none _ (s.ends m g);
          }

  -- where it leaves D..n-1, so does the chain
  pub after_lost : (q a : ℕ) → after A I q a ≡ none → (m : ℕ) → chain A I (q + m) a ≡ none
  after_lost zero a e m = absurd (not_some e (after_none a))
  after_lost (suc q) a e m = ap (λ (k : ℕ). chain A I k a) (suc-add q m) ∙ go (either (in_area A I a)) (after_lost q (next A.size I a))
    where
      go : (in_area A I a ≡ true) ⊎ (in_area A I a ≡ false) → (after A I q (next A.size I a) ≡ none → (m : ℕ) → chain A I (q + m) (next A.size I a) ≡ none)
          → chain A I (suc (q + m)) a ≡ none
      go (inr t) r = chain_out (q + m) a t
      go (inl t) r = chain_in (q + m) a t ∙ then-none _ (r (sym (after_in q a t) ∙ e) m)

  -- ---- the data bytes

  pub data_append : (xs ys : List ℕ) → data_of A I (xs ++ ys) ≡ data_of A I xs ++ data_of A I ys
  unfolding data_of
  data_append [] ys = refl
  data_append (a ∷ xs) ys =
      ap (λ (l : List ℕ). take (A.size - 4) (drop (A.size * a + 4) I) ++ l) (data_append xs ys)
      ∙ sym (append_assoc (take (A.size - 4) (drop (A.size * a + 4) I)) (data_of A I xs) (data_of A I ys))

  module _ (h : 4 ≤ A.size) (fits : A.size * A.end ≤ length I) where
    -- a block below n is in the image, and has its data bytes
    pub block_fits : (a : ℕ) → a < A.end → A.size * a + A.size ≤ length I
    block_fits a k = omega (arith, mul-le-mul_left A.size k, mul-suc A.size a)

    data_block : (a : ℕ) → a < A.end → length (take (A.size - 4) (drop (A.size * a + 4) I)) ≡ A.size - 4
    data_block a k = let f = block_fits a k in simp (length-take, length-drop) (omega arith)

    pub data_length : (xs : List ℕ) → All (λ (x : ℕ). (A.first ≤ x) × (x < A.end)) xs → length (data_of A I xs) ≡ (A.size - 4) * length xs
    unfolding data_of
    data_length [] w = sym (mul-zero (A.size - 4))
    data_length (a ∷ xs) w =
        rw (length-append, data_block a w.0.1, data_length xs w.1, mul-suc) (omega arith)
