-- The frame: what keeps the blocks of a chain keeps the chain and its data bytes, and what keeps the data area keeps what a read gives.
use mathlib.Core.Path.{◌≡◌, refl, sym, ap, ◌∙◌}
use mathlib.Core.Bool.{true, false}
use mathlib.Core.Logic.{◌⊎◌, inl, inr}
use mathlib.Core.Option.{Option, none, some}
use mathlib.Core.List.{List, [], ◌∷◌}
use Prim.Native.Nat.{ℕ, zero, suc, ◌+◌, ◌-◌, ◌*◌, ◌≤◌, ◌<◌}
use native.Mathlib.Omega.{arith}
use lib.Dec.{leb}
use lib.ListN.{length, get_or, take, drop, length-take, length-drop}
use lib.Seq.{ext_get_or, get_or-take, get_or-drop}
use Rattle.wire.specs.Pick.{pick}
use Rattle.wire.proofs.Picks.{either}
use Rattle.block.specs.Block.{Area, next, cell, Kept}
use Rattle.block.proofs.Blocks.{next_kept}
use Rattle.model.specs.Tree.{then}
use Rattle.model.specs.Volume.{All}
use Rattle.read_dir.specs.Walk.{in_area}
use Rattle.read_dir.proofs.Unroll.{area_true}
use Rattle.file_read.specs.Read.{chain, blocks_read, chain_read, data_of, missing, bytes_of}
use Rattle.file_read.proofs.Chains.{chain-none, chain_out, chain_in, chain_area, chain_there}

module _ (A : Area) (P : ℕ → ℕ → Type 0) (I J : List ℕ) (k : Kept A.size P I J) (four : 4 ≤ A.size) where
  -- all of block b is kept
  abbrev pub Same : ℕ → Type 0
  Same b = (o : ℕ) → o < A.size → P b o

  block_kept : (a : ℕ) → Same a → take (A.size - 4) (drop (A.size * a + 4) J) ≡ take (A.size - 4) (drop (A.size * a + 4) I)
  unfolding cell
  block_kept a f = ext_get_or 0 (take (A.size - 4) (drop (A.size * a + 4) J)) (take (A.size - 4) (drop (A.size * a + 4) I)) long at
    where
      long : length (take (A.size - 4) (drop (A.size * a + 4) J)) ≡ length (take (A.size - 4) (drop (A.size * a + 4) I))
      long = simp (length-take, length-drop, k.size)

      at : (i : ℕ) → i < length (take (A.size - 4) (drop (A.size * a + 4) J)) → get_or (take (A.size - 4) (drop (A.size * a + 4) J)) i 0 ≡ get_or (take (A.size - 4) (drop (A.size * a + 4) I)) i 0
      at i p =
          let q : i < A.size - 4 = omega (arith, length-take (A.size - 4) (drop (A.size * a + 4) J)) in
          let l : 4 + i < A.size = omega arith in
          let e : A.size * a + 4 + i ≡ A.size * a + (4 + i) = omega arith in
          get_or-take (A.size - 4) (drop (A.size * a + 4) J) i 0 q
          ∙ get_or-drop (A.size * a + 4) J i 0
          ∙ ap (λ (x : ℕ). get_or J x 0) e
          ∙ k.at a (4 + i) (f (4 + i) l) l
          ∙ sym (get_or-take (A.size - 4) (drop (A.size * a + 4) I) i 0 q ∙ get_or-drop (A.size * a + 4) I i 0 ∙ ap (λ (x : ℕ). get_or I x 0) e)

  -- ---- by the blocks of the chain

  data_kept : (xs : List ℕ) → All Same xs → data_of A J xs ≡ data_of A I xs
  unfolding data_of
  data_kept [] w = refl
  data_kept (a ∷ xs) w = rw (block_kept a w.0, data_kept xs w.1)

  -- ---- by the whole area

  module _ (f : (b o : ℕ) → A.first ≤ b → b < A.end → o < A.size → P b o) where
    chain_kept_area : (m a : ℕ) → chain A J m a ≡ chain A I m a
    chain_kept_area zero a = chain-none A J a ∙ sym (chain-none A I a)
    chain_kept_area (suc m) a = go (either (in_area A I a)) (chain_kept_area m)
      where
        go : (in_area A I a ≡ true) ⊎ (in_area A I a ≡ false) → ((b : ℕ) → chain A J m b ≡ chain A I m b) → chain A J (suc m) a ≡ chain A I (suc m) a
        go (inr t) r = chain_out A J m a t ∙ sym (chain_out A I m a t)
        go (inl t) r =
            let q = area_true A I a t in
            let x : next A.size J a ≡ next A.size I a = next_kept A.size P I J k a four (λ p l. f a p q.0 q.1 (omega arith)) in
            chain_in A J m a t
            ∙ ap (λ (o : Option (List ℕ)). then o (λ xs. some (a ∷ xs))) (ap (chain A J m) x ∙ r (next A.size I a))
            ∙ sym (chain_in A I m a t)

    area_same : (xs : List ℕ) → All (λ (x : ℕ). (A.first ≤ x) × (x < A.end)) xs → All Same xs
    area_same [] w = tt
    area_same (a ∷ xs) w = (λ o l. f a o w.0.0 w.0.1 l, area_same xs w.1)

    data_kept_area : (m a : ℕ) (xs : List ℕ) → chain A I m a ≡ some xs → data_of A J xs ≡ data_of A I xs
    data_kept_area m a xs e = data_kept xs (area_same xs (chain_area A I m a xs e))

    blocks_same : (p j : ℕ) → blocks_read A J p j ≡ blocks_read A I p j
    unfolding blocks_read
    blocks_same p zero = refl
    blocks_same p (suc j) = refl

    read_same : (a m : ℕ) → chain_read A J a m ≡ chain_read A I a m
    unfolding chain_read
    read_same a m = ap (λ (o : Option (List ℕ)). pick (leb m (A.end - A.first)) o none) (chain_kept_area m a)

    missing_same : (o : Option (List ℕ)) → missing A J o ≡ missing A I o
    missing_same none = refl
    missing_same (some xs) = refl

    bytes_same : (m a p j : ℕ) (o : Option (List ℕ)) → chain_read A I a m ≡ o → bytes_of A J o p j ≡ bytes_of A I o p j
    bytes_same m a p j none e = refl
    bytes_same m a p j (some xs) e = ap (λ (l : List ℕ). take j (drop p l)) (data_kept_area m a xs (chain_there A I a m xs e).1)
