-- 0. How an answer is said: a value, or the number of a refusal (the rules R). Definitions alone.
use Rattle.std.specs.Prelude.{Bool, List, [], ◌∷◌, ℕ, zero, suc}
use Rattle.wire.specs.Pick.{pick}

-- An answer: what the call gives, or the number of its refusal.
pub data Reply (A : Type 0) : Type 0 where
  accepted : A → Reply A
  refused : ℕ → Reply A

-- an answer, then what follows of its value
unfoldable pub and_then : {A B : Type 0} → Reply A → (A → Reply B) → Reply B
and_then (accepted a) f = f a
and_then (refused k) f = refused k

-- k where the test holds, else 0, which is the number of no refusal
unfoldable pub when : ℕ → Bool → ℕ
when k b = pick b k 0

-- O1: the first refusal of a list, which stands in the call's order; 0 where there is none
unfoldable pub first_of : List ℕ → ℕ
first_of [] = 0
first_of (zero ∷ ks) = first_of ks
first_of (suc k ∷ ks) = suc k

-- the answer of a call: the refusal if there is one, else the value
unfoldable pub reply : {A : Type 0} → ℕ → A → Reply A
reply zero a = accepted a
reply (suc k) a = refused (suc k)

-- an earlier refusal, if there is one, else the answer r
unfoldable pub given : {A : Type 0} → ℕ → Reply A → Reply A
given zero r = r
given (suc k) r = refused (suc k)

-- what a call leaves: x where it gives no refusal, else y, which is what was there
unfoldable pub settle : {A : Type 0} → ℕ → A → A → A
settle zero x y = x
settle (suc k) x y = y
