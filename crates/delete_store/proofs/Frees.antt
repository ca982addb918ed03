-- Blocks given back one after another: what becomes of them, of bitmap and count, and that a chain that the image shows is given back block by block.
use mathlib.Core.Path.{◌≡◌, refl, sym, ap, ◌∙◌, subst}
use mathlib.Core.List.{List, [], ◌∷◌, ◌++◌}
use Prim.Native.Nat.{ℕ, zero, suc, ◌+◌, ◌-◌, ◌*◌, ◌^◌, ◌≤◌, ◌<◌}
use native.Mathlib.Nat.{add-zero}
use native.Mathlib.Decide.{ℕ_discrete, dec_lt}
use native.Mathlib.Omega.{arith}
use lib.ListN.{length, get_or}
use borrow.Author.Tests.{eq-eqb, ne_eqb, lt-leb}
use Rattle.wire.specs.Be.{bytes}
use Rattle.wire.proofs.Picks.{pick_true, pick_false}
use Rattle.bits.proofs.Bits.{bit-lt}
use Rattle.block.specs.Block.{cell, next, Kept}
use Rattle.block.proofs.Blocks.{kept_refl, kept_trans, kept_less}
use Rattle.model.specs.Render.{Piece, ats, count, Shows, ShowsAll, Wiped}
use Rattle.model.specs.Geometry.{area_of, Geo, block_size, map_at, data_at, map_bits, bit_end, super_bytes, used_count, Sound}
use Rattle.model.specs.Volume.{All}
use Rattle.model.proofs.Areas.{area, few}
use Rattle.model.proofs.Counts.{count_same, count_other, count_none, count_cons, count_is}
use Rattle.model.proofs.Frame.{SameBlock, shows_frame}
use Rattle.model.proofs.Full.{Whole}
use Rattle.model.proofs.Entries.{next_shown}
use Rattle.bitmap_block.specs.Bitmap.{mark, freed}
use Rattle.bitmap_block.proofs.Stores.{Aside, aside_data, sound_kept, freed_kept, used_freed, top_freed, mark-freed, mark-freed_other, freed_wiped}
use Rattle.thm_walk.proofs.Walks.{in_area_lem}
use Rattle.chain_store.specs.Chain.{released, chain_freed}

-- the blocks of a list, one after another
unfoldable pub all_released : Geo → List ℕ → List ℕ → List ℕ
all_released g I [] = I
all_released g I (a ∷ gone) = all_released g (released g I a) gone

-- they are blocks of the data area that have a bit
abbrev pub Within : Geo → List ℕ → Type 0
Within g gone = (i : ℕ) → 1 ≤ count i gone → (data_at g ≤ i) × (i < bit_end g)

within_head : (g : Geo) (a : ℕ) (gone : List ℕ) → Within g (a ∷ gone) → (data_at g ≤ a) × (a < bit_end g)
within_head g a gone w = w a (omega (arith, count_same a a gone refl))

within_tail : (g : Geo) (a : ℕ) (gone : List ℕ) → Within g (a ∷ gone) → Within g gone
within_tail g a gone w i h = w i (omega (arith, count_cons i a gone))

module _ (g : Geo) (I : List ℕ) (s : Sound g (length I)) (a : ℕ) (h : (data_at g ≤ a) × (a < bit_end g)) where
  -- the index of the block
  index : data_at g + (a - data_at g) ≡ a
  index = omega arith

  inside : data_at g + (a - data_at g) < bit_end g
  inside = omega arith

  released-some : (used_count g I ≡ 0 → ⊥) → released g I a ≡ freed g I (a - data_at g)
  unfolding released
  released-some n = pick_false _ _ (rw (ne_eqb (used_count g I) 0 n, lt-leb (bit_end g) a h.1))

  -- no byte but the block's, the bitmap's and the count's changes
  pub released_kept : Kept (block_size g) (λ b o. Aside g b o × (b ≡ a → ⊥)) I (released g I a)
  unfolding released
  released_kept = go (ℕ_discrete (used_count g I) 0)
    where
      go : Dec (used_count g I ≡ 0) → Kept (block_size g) (λ b o. Aside g b o × (b ≡ a → ⊥)) I (released g I a)
      go (yes z) = subst (Kept (block_size g) (λ b o. Aside g b o × (b ≡ a → ⊥)) I) (sym (pick_true _ _ (rw (eq-eqb (used_count g I) 0 z)))) (kept_refl I)
      go (no z) =
          subst (Kept (block_size g) (λ b o. Aside g b o × (b ≡ a → ⊥)) I) (sym (released-some z))
          (kept_less (λ b o q. (q.0, λ e. q.1 (e ∙ index))) (freed_kept g I s (a - data_at g) inside))

  released_sound : Sound g (length (released g I a))
  released_sound = sound_kept g I s _ (released g I a) released_kept

  -- so another block of the data is as it was
  pub released_block : (b : ℕ) → data_at g ≤ b → (b ≡ a → ⊥) → SameBlock (block_size g) I (released g I a) b
  unfolding cell
  released_block b q d i l = released_kept.at b i (aside_data g (length I) s b i q, d) l

pub all_kept : (g : Geo) (gone : List ℕ) (I : List ℕ) → Sound g (length I) → Within g gone
    → Kept (block_size g) (λ b o. Aside g b o × (count b gone ≡ 0)) I (all_released g I gone)
unfolding all_released
all_kept g [] I s w = kept_refl I
all_kept g (a ∷ gone) I s w =
    let h = within_head g a gone w in
    kept_trans (kept_less (λ b o q. (q.0, λ e. omega (arith, q.1, count_same b a gone e))) (released_kept g I s a h))
    (kept_less (λ b o q. (q.0, omega (arith, q.1, count_cons b a gone))) (all_kept g gone (released g I a) (released_sound g I s a h) (within_tail g a gone w)))

-- What is so of the image J after the blocks `gone` of I are given back, where u stays in the count.
pub record Given (g : Geo) (I J : List ℕ) (u : ℕ) (gone : List ℕ) : Type 0 where
  pub top : Shows J (block_size g * g.K) (super_bytes g u)
  pub marks : (x : ℕ) → x < map_bits g → mark g J x + count (data_at g + x) gone ≡ mark g I x
  pub wiped : (b : ℕ) → 1 ≤ count b gone → Wiped (block_size g) J b

module _ (g : Geo) where
  mark-lt : (I : List ℕ) (x : ℕ) → mark g I x < 2
  unfolding mark
  mark-lt I x = bit-lt I (block_size g * map_at g) x

  -- one block's mark
  module _ (I : List ℕ) (s : Sound g (length I)) (a : ℕ) (gone : List ℕ) (h : (data_at g ≤ a) × (a < bit_end g))
      (m : (x : ℕ) → x < map_bits g → count (data_at g + x) (a ∷ gone) ≤ mark g I x) where
    marks_one : (x : ℕ) → x < map_bits g → (mark g (freed g I (a - data_at g)) x + count (data_at g + x) (a ∷ []) ≡ mark g I x) × (count (data_at g + x) gone ≤ mark g (freed g I (a - data_at g)) x)
    marks_one x q = go (ℕ_discrete x (a - data_at g))
      where
        f : List ℕ
        f = freed g I (a - data_at g)

        go : Dec (x ≡ a - data_at g) → (mark g (freed g I (a - data_at g)) x + count (data_at g + x) (a ∷ []) ≡ mark g I x) × (count (data_at g + x) gone ≤ mark g (freed g I (a - data_at g)) x)
        go (yes e) =
            let d : data_at g + x ≡ a = omega arith in
            let z : mark g (freed g I (a - data_at g)) x ≡ 0 = ap (mark g (freed g I (a - data_at g))) e ∙ mark-freed g I s (a - data_at g) (inside g I s a h) in
            let c₁ : count (data_at g + x) (a ∷ []) ≡ suc (count (data_at g + x) []) = count_same (data_at g + x) a [] d in
            let c₂ : count (data_at g + x) (a ∷ gone) ≡ suc (count (data_at g + x) gone) = count_same (data_at g + x) a gone d in
            (omega (arith, z, c₁, c₂, count_none (data_at g + x), m x q, mark-lt I x), omega (arith, z, c₂, m x q, mark-lt I x))
        go (no e) =
            let d : data_at g + x ≡ a → ⊥ = λ y. e (omega arith) in
            let z : mark g (freed g I (a - data_at g)) x ≡ mark g I x = mark-freed_other g I s (a - data_at g) (inside g I s a h) x q e in
            let c₁ : count (data_at g + x) (a ∷ []) ≡ count (data_at g + x) [] = count_other (data_at g + x) a [] d in
            let c₂ : count (data_at g + x) (a ∷ gone) ≡ count (data_at g + x) gone = count_other (data_at g + x) a gone d in
            (omega (arith, z, c₁, count_none (data_at g + x)), omega (arith, z, c₂, m x q))

  -- one block wiped, and still so when others are given back
  module _ (I : List ℕ) (s : Sound g (length I)) (a : ℕ) (gone : List ℕ) (h : (data_at g ≤ a) × (a < bit_end g))
      (sf : Sound g (length (freed g I (a - data_at g)))) (w : Within g gone) (b : ℕ) where
    wiped_one : 1 ≤ count b (a ∷ gone) → (1 ≤ count b gone → Wiped (block_size g) (all_released g (freed g I (a - data_at g)) gone) b)
        → Dec (0 < count b gone) → Wiped (block_size g) (all_released g (freed g I (a - data_at g)) gone) b
    unfolding cell
    wiped_one q r (yes l) = r l
    wiped_one q r (no l) =
        let e : b ≡ a = count_is b a (omega (arith, q, count_cons b a gone)) in
        let k : data_at g + (a - data_at g) ≡ b = omega arith in
        λ i m.
        (all_kept g gone (freed g I (a - data_at g)) sf w).at b i (aside_data g (length I) s b i (omega arith), omega arith) m
        ∙ ap (λ (z : ℕ). get_or (freed g I (a - data_at g)) (block_size g * z + i) 0) (sym k) ∙ freed_wiped g I s (a - data_at g) (inside g I s a h) i m

  -- Bits and count, where all these blocks were marked and counted.
  pub all_given : (gone : List ℕ) (I : List ℕ) (u : ℕ) → Sound g (length I) → Within g gone → used_count g I < 2 ^ 32 → used_count g I ≡ u + length gone
      → Shows I (block_size g * g.K) (super_bytes g (u + length gone)) → ((x : ℕ) → x < map_bits g → count (data_at g + x) gone ≤ mark g I x) → Given g I (all_released g I gone) u gone
  unfolding all_released
  all_given [] I u s w l e t m = record {
    top = subst (λ (z : ℕ). Shows I (block_size g * g.K) (super_bytes g z)) (add-zero u) t;
    marks = λ x q. omega (arith, count_none (data_at g + x));
    wiped = λ b q. absurd (omega (arith, count_none b));
  }
  all_given (a ∷ gone) I u s w l e t m =
      let h = within_head g a gone w in
      let f : List ℕ = freed g I (a - data_at g) in
      let i : released g I a ≡ f = released-some g I s a h (λ z. omega arith) in
      let n : used_count g I - 1 ≡ u + length gone = omega arith in
      let p : used_count g f ≡ u + length gone = used_freed g I s (a - data_at g) (inside g I s a h) l ∙ n in
      let t' : Shows f (block_size g * g.K) (super_bytes g (u + length gone))
      = subst (λ (z : ℕ). Shows f (block_size g * g.K) (super_bytes g z)) n (top_freed g I s (a - data_at g) (inside g I s a h) (u + suc (length gone)) t) in
      let sf : Sound g (length f) = subst (λ (J : List ℕ). Sound g (length J)) i (released_sound g I s a h) in
      let one = marks_one I s a gone h m in
      let r = all_given gone f u sf (within_tail g a gone w) (omega (arith, p)) p t' (λ x q. (one x q).1) in
      let v : Given g I (all_released g f gone) u (a ∷ gone) = record {
        top = r.top;
        marks = λ x q. omega (arith, r.marks x q, (one x q).0, count_cons (data_at g + x) a gone);
        wiped = λ b q. wiped_one I s a gone h sf (within_tail g a gone w) b q (r.wiped b) (dec_lt 0 (count b gone));
      } in
      subst (λ (J : List ℕ). Given g I (all_released g J gone) u (a ∷ gone)) (sym i) v

-- ---- a chain

-- the first address of a list of pieces, 0 where there is none
unfoldable pub first_at : List Piece → ℕ
first_at [] = 0
first_at (x ∷ xs) = x.at

-- each piece begins with the address of the next
abbrev pub Chained : List Piece → Type 0
Chained [] = Unit {0}
Chained (x ∷ xs) = ((r : List ℕ) × (x.full ≡ bytes 4 (first_at xs) ++ r)) × Chained xs

module _ (g : Geo) where
  first_small : (len : ℕ) → Sound g len → (xs : List Piece) → Within g (ats xs) → first_at xs < 2 ^ 32
  unfolding first_at ats
  first_small len s [] w = omega arith
  first_small len s (x ∷ xs) w = omega (arith, (within_head g x.at (ats xs) w).1, few g len s)

  -- It is given back block by block.
  pub chain-released : (xs : List Piece) (k : ℕ) (I : List ℕ) → Sound g (length I) → Chained xs → All (Whole (block_size g)) xs → ShowsAll (block_size g) I xs → Within g (ats xs)
      → ((i : ℕ) → count i (ats xs) ≤ 1) → length (ats xs) ≤ k → chain_freed g I k (first_at xs) ≡ all_released g I (ats xs)
  unfolding chain_freed all_released first_at ats
  chain-released [] zero I s c o v w once h = refl
  chain-released [] (suc k) I s c o v w once h = pick_false _ _ (rw (lt-leb (data_at g) 0 (omega (arith, (area g (length I) s).maps))))
  chain-released (x ∷ xs) zero I s c o v w once h = absurd (omega arith)
  chain-released (x ∷ xs) (suc k) I s c o v w once h =
      let B : ℕ = block_size g in
      let i = within_head g x.at (ats xs) w in
      let w' = within_tail g x.at (ats xs) w in
      let J : List ℕ = released g I x.at in
      let z : next B I x.at ≡ first_at xs
      = next_shown B I x.at (first_at xs) c.0.0 (first_small (length I) s xs w') (subst (Shows I (B * x.at)) c.0.1 v.0) in
      let v' : ShowsAll B J xs = shows_frame B I J xs o.1 (λ b q. released_block g I s x.at i b (w' b q).0 (λ e. omega (arith, q, once b, count_same b x.at (ats xs) e))) v.1 in
      pick_true _ _ (in_area_lem (area_of g) I x.at (i.0, omega (arith, i.1)))
      ∙ ap (chain_freed g J k) z
      ∙ chain-released xs k J (released_sound g I s x.at i) c.1 o.1 v' w' (λ j. omega (arith, once j, count_cons j x.at (ats xs))) (omega arith)
