-- The stores of an own entry, and what is known of it in each case.
use mathlib.Core.Path.{◌≡◌, sym, ap, ◌∙◌}
use mathlib.Core.List.{List}
use Prim.Native.Nat.{ℕ}
use Rattle.block.specs.Block.{Area}
use Rattle.super_block.specs.declared.SuperBlock.{SuperBlock}
use Rattle.super_block.specs.Super.{area_in, geo_of, Fit}
use Rattle.super_block.proofs.Fits.{area_is}
use Rattle.read_dir.specs.declared.Place.{Place}
use Rattle.std.specs.Prelude.{Some, None, Result, Ok, Err}
use Rattle.limits.specs.declared.Damage.{Damage}
use Rattle.read_dir.specs.Walk.{walk}
use Rattle.read_dir.specs.Finds.{sum_from}
use Rattle.own_entry.specs.Own.{Own, own_renewed, own_summed, sum_renewed}

-- an entry at a place, by the size z and the address a of the linked block that code makes
pub renewed_in : (B : ℕ) (I J : List ℕ) (p : Place) (z a n k : ℕ) → z ≡ B → a ≡ p.block.0
    → J ≡ own_renewed z I (Some (record { block = record { 0 = a }; offset = p.offset })) n k → J ≡ own_renewed B I (Some p) n k
renewed_in B I J p z a n k e f h =
    h ∙ (λ i. own_renewed (e i) I (Some (record { block = record { 0 = f i }; offset = p.offset })) n k)

-- ---- the sum of the directory

module _ (s : SuperBlock) (I : List ℕ) (dir : ℕ) (own : Own) (time : ℕ) (r : Result ℕ Damage) (f : Fit s I) (e : r ≡ sum_from 0 (walk (area_in s) I dir)) where
  renewed_by : own_summed s.size I own time r ≡ sum_renewed (geo_of s) I dir own time
  unfolding sum_renewed
  renewed_by = ap (own_summed s.size I own time) e ∙ ap (λ (A : Area). own_summed A.size I own time (sum_from 0 (walk A I dir))) (area_is f)

  module _ (n : ℕ) (q : r ≡ Ok n) where
    told : own_renewed s.size I own n time ≡ sum_renewed (geo_of s) I dir own time
    told = ap (own_summed s.size I own time) (sym q) ∙ renewed_by

    pub sum_told : (J : List ℕ) (p : Place) (z a : ℕ) → own ≡ Some p → z ≡ s.size → a ≡ p.block.0
        → J ≡ own_renewed z I (Some (record { block = record { 0 = a }; offset = p.offset })) n time
        → J ≡ sum_renewed (geo_of s) I dir own time
    sum_told J p z a o g h j =
        renewed_in s.size I J p z a n time g h j ∙ ap (λ (w : Own). own_renewed s.size I w n time) (sym o) ∙ told

    pub sum_of_root : own ≡ None → I ≡ sum_renewed (geo_of s) I dir own time
    sum_of_root o = ap (λ (w : Own). own_renewed s.size I w n time) (sym o) ∙ told

  pub sum_damaged : (x : Damage) → r ≡ Err x → I ≡ sum_renewed (geo_of s) I dir own time
  sum_damaged x q = ap (own_summed s.size I own time) (sym q) ∙ renewed_by
