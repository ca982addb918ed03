-- An answer with a value beside it is success or a refusal, and what it says tells which.
use mathlib.Core.Path.{◌≡◌, refl, sym}
use Prim.Native.Nat.{ℕ}
use Rattle.model.specs.Answers.{accepted, refused}
use Rattle.model.proofs.Replies.{not_accepted, accepted-one}
use Rattle.limits.specs.declared.Refusal.{Refusal}
use Rattle.limits.specs.Refusals.{refusal_number}
use Rattle.call_read.specs.Says.{on_answer}
use Rattle.std.specs.Prelude.{Result, Ok, Err}

-- ---- accepted

pub value_said : {A : Type 0} (r : Result (Unit {0}) Refusal) (a b : A) → on_answer r a ≡ accepted b → r ≡ Ok tt
value_said (Ok u) a b e = refl
value_said (Err x) a b e = absurd (not_accepted (refusal_number x) b e)

pub value_is : {A : Type 0} (r : Result (Unit {0}) Refusal) (a b : A) → on_answer r a ≡ accepted b → a ≡ b
value_is (Ok u) a b e = accepted-one a b e
value_is (Err x) a b e = absurd (not_accepted (refusal_number x) b e)

-- ---- refused: no answer that is success says so

not_refused : {A : Type 0} (a : A) (j : ℕ) → accepted a ≡ refused j → ⊥
not_refused a j e = not_accepted j a (sym e)

pub value_refused : {A : Type 0} (r : Result (Unit {0}) Refusal) (a : A) (j : ℕ) → on_answer r a ≡ refused j → (x : Refusal) × (r ≡ Err x)
value_refused (Ok u) a j e = absurd (not_refused a j e)
value_refused (Err x) a j e = (x, refl)
