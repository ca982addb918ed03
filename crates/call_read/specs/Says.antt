-- What an answer says that has a value beside it. Definitions alone.
use Rattle.std.specs.Prelude.{Result, Ok, Err}
use Rattle.model.specs.Answers.{Reply, accepted, refused}
use Rattle.limits.specs.Refusals.{refusal_number}
use Rattle.limits.specs.declared.Refusal.{Refusal}

-- a plain answer with a value beside it, which counts where the answer is success
abbrev pub on_answer : {A : Type 0} → Result (Unit {0}) Refusal → A → Reply A
on_answer (Ok u) a = accepted a
on_answer (Err r) a = refused (refusal_number r)

-- what holds of a refused call alone
abbrev pub IfRefused : Result (Unit {0}) Refusal → Type 0 → Type 0
IfRefused (Ok u) P = Unit {0}
IfRefused (Err r) P = P
