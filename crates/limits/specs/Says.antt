-- What an answer of code says on paper: its value, or the number of its refusal. Definitions alone.
use Rattle.std.specs.Prelude.{Result, Ok, Err}
use Rattle.model.specs.Answers.{Reply, accepted, refused}
use Rattle.limits.specs.Refusals.{refusal_number}
use Rattle.limits.specs.declared.Refusal.{Refusal}
use Rattle.limits.specs.declared.Damage.{Damage}

-- the value as f has it on paper
abbrev pub says_by : {A B : Type 0} → (A → B) → Result A Refusal → Reply B
says_by f (Ok a) = accepted (f a)
says_by f (Err r) = refused (refusal_number r)

-- the value itself; of a plain success that is nothing
abbrev pub says : {A : Type 0} → Result A Refusal → Reply A
says (Ok a) = accepted a
says (Err r) = refused (refusal_number r)

-- damage has one value
abbrev pub damage : Damage
damage = record {}
