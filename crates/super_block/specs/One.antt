-- That a volume's numbers fit an image holds in one way alone, as a struct that keeps it asks.
use Rattle.std.specs.Prelude.{◌≡◌, List, ℕ, ◌≤◌}
use Rattle.std.specs.Coded.{Coded-set, coded_ℕ, le_prop}
use Rattle.std.proofs.Common.{ap, inl, inr, arith}
use Rattle.model.specs.Geometry.{Geo, Known, last_code}
use Rattle.super_block.specs.declared.SuperBlock.{SuperBlock}
use Rattle.super_block.specs.Super.{Fit}

numbers_set : IsSet ℕ
numbers_set = Coded-set coded_ℕ

known_is_one : (g : Geo) → IsProp (Known g)
known_is_one g (inl a) (inl b) = let p : IsProp ((g.version ≡ 1) × (g.code ≡ 0)) = hlevel (numbers_set, le_prop) in ap inl (p a b)
known_is_one g (inl a) (inr b) = absurd (omega (arith, a.0, b.0))
known_is_one g (inr a) (inl b) = absurd (omega (arith, a.0, b.0))
known_is_one g (inr a) (inr b) =
    let p : IsProp ((g.version ≡ 2) × (g.code ≤ last_code)) = hlevel (numbers_set, le_prop) in ap inr (p a b)

pub fit_is_one : (s : SuperBlock) (I : List ℕ) → IsProp (Fit s I)
fit_is_one s I = hlevel (known_is_one, numbers_set, le_prop)
