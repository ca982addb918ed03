-- The laws of answers: `reply` and `settle`, where a refusal's number is above 0 and decides answer and image; `given` and `and_then`.
use mathlib.Core.Path.{◌≡◌, refl, sym, ap, ◌∙◌}
use mathlib.Core.Bool.{Bool, true, false}
use mathlib.Core.Logic.{◌⊎◌, inl, inr}
use Prim.Native.Nat.{ℕ, zero, suc, ◌≤◌}
use native.Mathlib.Omega.{arith}
use Rattle.model.specs.Answers.{Reply, accepted, refused, and_then, when, given, reply, settle}
use Rattle.model.proofs.Opens.{when_true, when_false}

-- a refusal is no answer; an answer is one value, a refusal one number
pub not_accepted : {A : Type 0} (k : ℕ) (a : A) → refused k ≡ accepted a → ⊥
not_accepted k a e = let z : ◌≡◌ {A = ℕ} 0 1 = cc in omega arith

pub accepted-one : {A : Type 0} (a b : A) → accepted a ≡ accepted b → a ≡ b
accepted-one a b e = cc

pub refused-one : {A : Type 0} (j k : ℕ) → ◌≡◌ {A = Reply A} (refused j) (refused k) → j ≡ k
refused-one j k e = cc

-- by the number
pub reply-none : {A : Type 0} {k : ℕ} (a : A) → k ≡ 0 → reply k a ≡ accepted a
unfolding reply
reply-none {A} a e = ap (λ (z : ℕ). reply z a) e

pub reply_suc : {A : Type 0} (k : ℕ) (a : A) → 1 ≤ k → reply k a ≡ refused k
unfolding reply
reply_suc zero a h = absurd (omega arith)
reply_suc (suc k) a h = refl

pub settle-none : {A : Type 0} {k : ℕ} (x y : A) → k ≡ 0 → settle k x y ≡ x
unfolding settle
settle-none x y e = ap (λ (z : ℕ). settle z x y) e

pub settle_suc : {A : Type 0} (k : ℕ) (x y : A) → 1 ≤ k → settle k x y ≡ y
unfolding settle
settle_suc zero x y h = absurd (omega arith)
settle_suc (suc k) x y h = refl

-- what is accepted was not refused
pub reply_zero : {A : Type 0} (k : ℕ) (a b : A) → reply k a ≡ accepted b → k ≡ 0
unfolding reply
reply_zero zero a b e = refl
reply_zero (suc k) a b e = absurd (not_accepted (suc k) b e)

-- ---- an earlier refusal, if there is one

pub given_none : {A : Type 0} {k : ℕ} (r : Reply A) → k ≡ 0 → given k r ≡ r
unfolding given
given_none r e = ap (λ (j : ℕ). given j r) e

pub given_refuses : {A : Type 0} (k : ℕ) (r : Reply A) → 1 ≤ k → given k r ≡ refused k
unfolding given
given_refuses zero r h = absurd (omega arith)
given_refuses (suc k) r h = refl

pub given_some : {A : Type 0} (j : ℕ) {k : ℕ} (r : Reply A) → 1 ≤ j → k ≡ j → given k r ≡ refused j
given_some j {k} r h e = ap (λ (i : ℕ). given i r) e ∙ given_refuses j r h

-- by a test
pub given_yes : {A : Type 0} (k : ℕ) {b : Bool} (r : Reply A) → 1 ≤ k → b ≡ true → given (when k b) r ≡ refused k
given_yes k r h e = given_some k r h (when_true k e)

pub given_no : {A : Type 0} (k : ℕ) {b : Bool} (r : Reply A) → b ≡ false → given (when k b) r ≡ r
given_no k r e = given_none r (when_false k e)

-- what is accepted was not refused before
pub given_accepted : {A : Type 0} (k : ℕ) (r : Reply A) (a : A) → given k r ≡ accepted a → (k ≡ 0) × (r ≡ accepted a)
unfolding given
given_accepted zero r a e = (refl, e)
given_accepted (suc k) r a e = absurd (not_accepted (suc k) a e)

-- what is refused is the earlier refusal, or the answer's own
pub given_refused : {A : Type 0} (k : ℕ) (r : Reply A) (j : ℕ) → given k r ≡ refused j → ((1 ≤ k) × (j ≡ k)) ⊎ ((k ≡ 0) × (r ≡ refused j))
unfolding given
given_refused zero r j e = inr (refl, e)
given_refused (suc k) r j e = inl (omega arith, sym (refused-one (suc k) j e))

-- ---- one answer after another

pub and_then_ok : {A B : Type 0} {r : Reply A} (a : A) (f : A → Reply B) → r ≡ accepted a → and_then r f ≡ f a
unfolding and_then
and_then_ok a f e = rw e

pub and_then_no : {A B : Type 0} {r : Reply A} (k : ℕ) (f : A → Reply B) → r ≡ refused k → and_then r f ≡ refused k
unfolding and_then
and_then_no k f e = rw e

pub then-accepted : {A B : Type 0} (r : Reply A) (f : A → Reply B) (b : B) → and_then r f ≡ accepted b → (a : A) × (r ≡ accepted a) × (f a ≡ accepted b)
unfolding and_then
then-accepted (accepted a) f b e = (a, refl, e)
then-accepted (refused k) f b e = absurd (not_accepted k b e)

pub then-refused : {A B : Type 0} (r : Reply A) (f : A → Reply B) (j : ℕ) → and_then r f ≡ refused j → (r ≡ refused j) ⊎ ((a : A) × (r ≡ accepted a) × (f a ≡ refused j))
unfolding and_then
then-refused (accepted a) f j e = inr (a, refl, e)
then-refused (refused k) f j e = inl (ap refused (refused-one k j e))

-- where the second never refuses
pub first_refused : {A B : Type 0} (r : Reply A) (f : A → B) (j : ℕ) → and_then r (λ a. accepted (f a)) ≡ refused j → r ≡ refused j
unfolding and_then
first_refused (accepted a) f j e = absurd (not_accepted j (f a) (sym e))
first_refused (refused k) f j e = ap refused (refused-one k j e)
