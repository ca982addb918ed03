-- What a `?` gives at its exit: the error that it passes on, as the caller has it.
use mathlib.Core.Path.{◌≡◌, ap}
use Rattle.std.specs.Prelude.{Result, Ok, Err}
use Rattle.std.specs.Result.{IsErrAnd}

pub err_is : {A E : Type 0} {x : E} (r : Result A E) → IsErrAnd r (λ e. e ≡ x) → r ≡ Err x
err_is (Ok a) h = absurd h
err_is (Err e) h = ap Err h
