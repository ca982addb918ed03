-- How code follows a chain: block by block, and to the block where a read begins.
use mathlib.Core.Path.{◌≡◌, refl, sym, ap, ◌∙◌, subst}
use mathlib.Core.Bool.{Bool, true, false}
use mathlib.Core.Option.{Option, none, some}
use mathlib.Core.List.{List, [], ◌++◌}
use Prim.Native.Nat.{ℕ, suc, ◌+◌, ◌-◌, ◌*◌, ◌/◌, ◌%◌, ◌≤◌, ◌<◌}
use native.Mathlib.Nat.{add-zero, div-add-mod, mul-add-div}
use native.Mathlib.Omega.{arith}
use lib.ListN.{length, take, drop}
use lib.Seq.{drop-append-add}
use Rattle.block.specs.Block.{Area, next}
use Rattle.block.specs.declared.Addr.{Addr}
use Rattle.read_dir.specs.Walk.{in_area}
use Rattle.super_block.specs.declared.SuperBlock.{SuperBlock}
use Rattle.super_block.specs.Super.{area_in, Fit}
use Rattle.file_read.specs.Read.{chain, blocks_read, chain_read, data_of, missing, bytes_of}
use Rattle.file_read.specs.Post.{after, Begins, BeginsIs}
use Rattle.std.specs.Prelude.{Result, Ok, Err, is_err}
use Rattle.limits.specs.declared.Damage.{Damage}
use Rattle.file_read.proofs.Chains.{missing-none, missing-some, chain-none, chain_read_lem, chain-over, after_none, after_out, after_in, after-split, after_lost, Split, data_append, data_length}

-- ---- block by block: i are passed, and b is the block

module _ (A : Area) (I : List ℕ) (a k b i : ℕ) (inv : after A I (k - i) b ≡ after A I k a) where
  pub follow_end : k ≤ i → after A I k a ≡ some b
  follow_end h =
      let e : k - i ≡ 0 = omega arith in
      sym inv ∙ ap (λ (x : ℕ). after A I x b) e ∙ after_none A I b

  module _ (h : i < k) where
    more : (o : Option ℕ) → after A I (suc (k - (i + 1))) b ≡ o → after A I k a ≡ o
    more o g =
        let e : k - i ≡ suc (k - (i + 1)) = omega arith in
        sym inv ∙ ap (λ (x : ℕ). after A I x b) e ∙ g

    -- t is whether b is one of the area's
    module _ (t : Bool) (e : t ≡ in_area A I b) where
      pub follow_out : t ≡ false → after A I k a ≡ none
      follow_out f = more none (after_out A I (k - (i + 1)) b (sym e ∙ f))

      pub follow_again : (to : ℕ) → t ≡ true → to ≡ next A.size I b → after A I (k - (i + 1)) to ≡ after A I k a
      follow_again to f x =
          sym (more (after A I (k - (i + 1)) to) (after_in A I (k - (i + 1)) b (sym e ∙ f) ∙ ap (after A I (k - (i + 1))) (sym x)))

-- ---- how many blocks a read walks, and what the bound on them leaves

-- blocks of c bytes: j bytes behind byte p are j bytes behind its place in its block
div-split : (c : ℕ) → 0 < c → (p j : ℕ) → (p + j) / c ≡ p / c + (p % c + j) / c
div-split c h p j =
    let e : p + j ≡ c * (p / c) + (p % c + j) = omega (arith, div-add-mod p c) in
    ap (λ (x : ℕ). x / c) e ∙ mul-add-div h (p / c) (p % c + j)

-- what code answers where the chain is damaged
pub lost_begins : (A : Area) (I : List ℕ) (a p k : ℕ) (t : Result Addr Damage) → is_err t ≡ true
    → missing A I (chain_read A I a (blocks_read A I p k)) ≡ true → BeginsIs A I a p k t
lost_begins A I a p k (Ok b) e m = cc
lost_begins A I a p k (Err d) e m = m

module _ (A : Area) (I : List ℕ) where
  pub blocks-none : (p : ℕ) → blocks_read A I p 0 ≡ 0
  unfolding blocks_read
  blocks-none p = refl

  pub blocks-some : (p k : ℕ) → 0 < k → blocks_read A I p k ≡ (p + (k - 1)) / (A.size - 4) + 1
  unfolding blocks_read
  blocks-some p k h =
      let e : k ≡ suc (k - 1) = omega arith in
      ap (blocks_read A I p) e ∙ omega arith

  -- a walk that comes somewhere has a chain behind it
  after-chain : (m b x : ℕ) → after A I m b ≡ some x → (xs : List ℕ) × (chain A I m b ≡ some xs)
  after-chain m b x e =
      let s = after-split A I m b x e in
      (s.front ++ [], subst (λ (k : ℕ). chain A I k b ≡ some (s.front ++ [])) (add-zero m) (s.goes 0 [] (chain-none A I x)))

  -- a walk that does not has none
  after-none-chain : (m b : ℕ) → after A I m b ≡ none → chain A I m b ≡ none
  after-none-chain m b e = subst (λ (k : ℕ). chain A I k b ≡ none) (add-zero m) (after_lost A I m b e 0)

-- ---- where a read begins

pub begin_none : (A : Area) (I : List ℕ) (a p k : ℕ) → k ≡ 0 → Begins A I a p k a
begin_none A I a p k e = subst (λ (x : ℕ). Begins A I a p x a) (sym e) zero_begins
  where
    zero_read : chain_read A I a (blocks_read A I p 0) ≡ some []
    zero_read = ap (chain_read A I a) (blocks-none A I p) ∙ chain_read_lem A I a 0 (omega arith) ∙ chain-none A I a

    zero_part : chain A I (blocks_read A I (p % (A.size - 4)) 0) a ≡ some []
    zero_part = ap (λ (m : ℕ). chain A I m a) (blocks-none A I (p % (A.size - 4))) ∙ chain-none A I a

    zero_begins : Begins A I a p 0 a
    zero_begins =
        record {
          good = missing-some A I _ [] zero_read;
          whole = missing-some A I _ [] zero_part;
          bytes =
              ap (λ (o : Option (List ℕ)). bytes_of A I o p 0) zero_read
              ∙ sym (ap (λ (o : Option (List ℕ)). bytes_of A I o (p % (A.size - 4)) 0) zero_part);
        }

module _ (s : SuperBlock) (I : List ℕ) (f : Fit s I) (a p k : ℕ) (z : k ≡ 0 → ⊥) where
  abbrev A : Area
  A = area_in s

  abbrev c : ℕ
  c = A.size - 4

  some_data : 0 < c
  some_data = omega (arith, f.known.least)

  abbrev m : ℕ
  m = (p + (k - 1)) / c + 1

  count : blocks_read A I p k ≡ m
  count = blocks-some A I p k (omega arith)

  pub begin_over : A.end - A.first < m → missing A I (chain_read A I a (blocks_read A I p k)) ≡ true
  begin_over h = missing-none A I _ (ap (chain_read A I a) count ∙ chain-over A I a m h)

  module _ (l : m ≤ A.end - A.first) where
    whole_read : chain_read A I a (blocks_read A I p k) ≡ chain A I m a
    whole_read = ap (chain_read A I a) count ∙ chain_read_lem A I a m l

    parts : p / c + (m - p / c) ≡ m
    parts = omega (arith, div-split c some_data p (k - 1))

    part_count : blocks_read A I (p % c) k ≡ m - p / c
    part_count = blocks-some A I (p % c) k (omega arith) ∙ omega (arith, div-split c some_data p (k - 1))

    pub begin_lost : after A I (p / c) a ≡ none → missing A I (chain_read A I a (blocks_read A I p k)) ≡ true
    begin_lost e =
        missing-none A I _ (whole_read ∙ ap (λ (x : ℕ). chain A I x a) (sym parts) ∙ after_lost A I (p / c) a e (m - p / c))

    -- b is the block of byte p
    module _ (b : ℕ) (e : after A I (p / c) a ≡ some b) where
      cut : Split A I (p / c) a b
      cut = after-split A I (p / c) a b e

      pub begin_cut : after A I (m - p / c) b ≡ none → missing A I (chain_read A I a (blocks_read A I p k)) ≡ true
      begin_cut g =
          missing-none A I _
          (whole_read ∙ ap (λ (x : ℕ). chain A I x a) (sym parts) ∙ cut.ends (m - p / c) (after-none-chain A I (m - p / c) b g))

      pub begin_found : (x : ℕ) → after A I (m - p / c) b ≡ some x → Begins A I a p k b
      begin_found x g =
          let q = after-chain A I (m - p / c) b x g in
          let xs : List ℕ = q.0 in
          let all : chain_read A I a (blocks_read A I p k) ≡ some (cut.front ++ xs)
          = whole_read ∙ ap (λ (y : ℕ). chain A I y a) (sym parts) ∙ cut.goes (m - p / c) xs q.1 in
          let part : chain A I (blocks_read A I (p % c) k) b ≡ some xs
          = ap (λ (y : ℕ). chain A I y b) part_count ∙ q.1 in
          record {
            good = missing-some A I _ (cut.front ++ xs) all;
            whole = missing-some A I _ xs part;
            bytes =
                ap (λ (o : Option (List ℕ)). bytes_of A I o p k) all
                ∙ ap (take k) (rest xs)
                ∙ sym (ap (λ (o : Option (List ℕ)). bytes_of A I o (p % c) k) part);
          }
        where
          rest : (xs : List ℕ) → drop p (data_of A I (cut.front ++ xs)) ≡ drop (p % c) (data_of A I xs)
          rest xs =
              let u : length (data_of A I cut.front) ≡ c * length cut.front
              = data_length A I (omega (arith, f.known.least)) f.inside cut.front cut.inside in
              let q : p ≡ length (data_of A I cut.front) + p % c
              = omega (arith, u, ap (λ (y : ℕ). c * y) cut.long, div-add-mod p c) in
              ap (drop p) (data_append A I cut.front xs)
              ∙ ap (λ (y : ℕ). drop y (data_of A I cut.front ++ data_of A I xs)) q
              ∙ drop-append-add (data_of A I cut.front) (data_of A I xs) (p % c)
