-- What a `?` gives: at its exit, where a walk met damage: the one error that there is.
use mathlib.Core.Path.{◌≡◌, refl, ap, ◌∙◌}
use Rattle.std.specs.Prelude.{Option, Some, None, Result, Ok, Err}
use Rattle.std.specs.Result.{IsErr}
use Rattle.limits.specs.declared.Damage.{Damage}
use Rattle.limits.specs.Says.{damage}

pub damage_is : {A : Type 0} (r : Result A Damage) → IsErr r → r ≡ Err damage
damage_is (Ok a) h = cc
damage_is (Err d) h = refl

-- what a step gave, by what its `?` lets through
module _ {A E : Type 0} {r : Result (Option A) E} {o : Option A} where
  pub gave_some : {a : A} → r ≡ Ok o → o ≡ Some a → r ≡ Ok (Some a)
  gave_some p q = p ∙ ap Ok q

  pub gave_none : r ≡ Ok o → o ≡ None → r ≡ Ok None
  gave_none p q = p ∙ ap Ok q
