-- An answer is a value or a refusal, and what it says tells which: no two answers say the same.
use mathlib.Core.Path.{◌≡◌, refl, sym, ap}
use mathlib.Core.Logic.{◌⊎◌, inl, inr}
use Prim.Native.Nat.{ℕ}
use Rattle.std.specs.Prelude.{Result, Ok, Err}
use Rattle.model.specs.Answers.{accepted, refused}
use Rattle.model.proofs.Replies.{not_accepted, accepted-one, refused-one}
use Rattle.limits.specs.Refusals.{refusal_number}
use Rattle.limits.specs.Says.{says}
use Rattle.limits.specs.declared.Refusal.{Refusal}
use Rattle.limits.proofs.Numbers.{number_one}

module _ {A : Type 0} where
  pub answer_is : (r : Result A Refusal) → ((a : A) × (r ≡ Ok a)) ⊎ ((x : Refusal) × (r ≡ Err x))
  answer_is (Ok a) = inl (a, refl)
  answer_is (Err x) = inr (x, refl)

  pub said_ok : (r : Result A Refusal) (a : A) → says r ≡ accepted a → r ≡ Ok a
  said_ok (Ok b) a e = ap Ok (accepted-one b a e)
  said_ok (Err x) a e = absurd (not_accepted (refusal_number x) a e)

  pub said_err : (r : Result A Refusal) (j : ℕ) → says r ≡ refused j → (x : Refusal) × (r ≡ Err x)
  said_err (Ok a) j e = absurd (not_accepted j a (sym e))
  said_err (Err x) j e = (x, refl)

  pub says_one : (r q : Result A Refusal) → says r ≡ says q → r ≡ q
  says_one r (Ok b) e = said_ok r b e
  says_one (Ok a) (Err y) e = absurd (not_accepted (refusal_number y) a (sym e))
  says_one (Err x) (Err y) e = ap Err (number_one x y (refused-one {A = A} (refusal_number x) (refusal_number y) e))
