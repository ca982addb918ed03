-- The tree determines the image but for the blocks that are neither superblock nor bitmap nor reached: so D1's outcome is one.
use mathlib.Core.Path.{◌≡◌, sym, ap, ◌∙◌}
use mathlib.Core.List.{List}
use Prim.Native.Nat.{ℕ, suc, ◌+◌, ◌-◌, ◌*◌, ◌/◌, ◌%◌, ◌≤◌, ◌<◌}
use native.Mathlib.Nat.{mul-add, mul-suc, mul-le-mul_left, mod-lt, div-add-mod}
use native.Mathlib.Omega.{arith}
use native.Mathlib.Decide.{dec_lt, ℕ_discrete}
use lib.ListN.{get_or}
use lib.Seq.{ext_get_or}
use Rattle.block.specs.Block.{cell, Kept}
use Rattle.model.specs.Tree.{Tree}
use Rattle.model.specs.Render.{render, count, blocks}
use Rattle.model.specs.Geometry.{Geo, block_size, map_at, data_at}
use Rattle.model.specs.Volume.{Volume}
use Rattle.model.specs.Calls.{Outside}
use Rattle.model.specs.Steps.{Bytes}
use Rattle.model.proofs.Areas.{volume_laid, size_large}
use Rattle.model.proofs.Alike.{alike_refl}
use Rattle.model.proofs.Demand.{shown_near, byte_same, whole_super}
use Rattle.model.proofs.Full.{whole_tree}

module _ (g : Geo) (d : ℕ) (t : Tree d) (I J : List ℕ) (v : Volume g I d t) (w : Volume g J d t) (x : Bytes I) (y : Bytes J)
    (s : Kept (block_size g) (λ b o. Outside g d t b) I J) where
  out : (b i : ℕ) → i < block_size g → Outside g d t b → get_or J (block_size g * b + i) 0 ≡ get_or I (block_size g * b + i) 0
  unfolding cell
  out b i h o = s.at b i o h

  in_map : (b i : ℕ) → i < block_size g → map_at g ≤ b → b < data_at g → get_or J (block_size g * b + i) 0 ≡ get_or I (block_size g * b + i) 0
  in_map b i h p q =
      let B : ℕ = block_size g in
      let c : ℕ = b - map_at g in
      let e : B * b ≡ B * map_at g + B * c = ap (λ (z : ℕ). B * z) (let r : b ≡ map_at g + c = omega arith in r) ∙ mul-add B (map_at g) c in
      let f : B * suc c ≤ B * (data_at g - map_at g) = mul-le-mul_left B (omega arith) in
      let k : B * suc c ≡ B * c + B = mul-suc B c in
      let m : B * b + i ≡ B * map_at g + (B * c + i) = omega (arith, e) in
      rw m (byte_same I J (B * map_at g) (B * c + i) x y (λ j l. w.marked (8 * (B * c + i) + j) (omega (arith, f, k)) ∙ sym (v.marked (8 * (B * c + i) + j) (omega (arith, f, k)))))

  at_block : (b i : ℕ) → i < block_size g → get_or J (block_size g * b + i) 0 ≡ get_or I (block_size g * b + i) 0
  at_block b i h = go (ℕ_discrete b g.K) (dec_lt b (map_at g)) (dec_lt b (data_at g)) (dec_lt 0 (count b (blocks (block_size g) d t)))
    where
      reached : 1 ≤ count b (blocks (block_size g) d t) → get_or J (block_size g * b + i) 0 ≡ get_or I (block_size g * b + i) 0
      reached c =
          shown_near (λ _. ⊥) (block_size g) I J (render (block_size g) d t) (render (block_size g) d t) (alike_refl (λ _. ⊥) (block_size g) (render (block_size g) d t))
          (whole_tree (block_size g) (omega (arith, size_large g)) d t v.laid.good) v.laid.shown w.laid.shown b i c h (λ z. z)

      go : Dec (b ≡ g.K) → Dec (b < map_at g) → Dec (b < data_at g) → Dec (0 < count b (blocks (block_size g) d t)) → get_or J (block_size g * b + i) 0 ≡ get_or I (block_size g * b + i) 0
      go (yes e) p q r = rw e ((volume_laid g J d t w).top i (rw (whole_super g) h) ∙ sym ((volume_laid g I d t v).top i (rw (whole_super g) h)))
      go (no e) (no p) (yes q) r = in_map b i h (omega arith) q
      go (no e) (yes p) q (yes r) = reached r
      go (no e) (yes p) q (no r) = out b i h (record { not_super = e; not_map = λ l _. p' l; not_reached = omega arith })
        where
          p' : map_at g ≤ b → ⊥
          p' l = omega arith
      go (no e) (no p) (no q) (yes r) = reached r
      go (no e) (no p) (no q) (no r) = out b i h (record { not_super = e; not_map = λ _ l. q l; not_reached = omega arith })

  -- Two images that have the volume of one tree, and alike every block outside it, are one.
  pub image_one : J ≡ I
  image_one = ext_get_or 0 J I s.size (λ j h.
      let B : ℕ = block_size g in
      let k : B * (j / B) + j % B ≡ j = div-add-mod j B in
      ap (λ (z : ℕ). get_or J z 0) (sym k) ∙ at_block (j / B) (j % B) (mod-lt j (omega (arith, size_large g))) ∙ ap (λ (z : ℕ). get_or I z 0) k)
