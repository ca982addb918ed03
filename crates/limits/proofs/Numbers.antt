-- The refusals' numbers: each is above 0 and is one refusal's, and an answer or an image is decided by it.
use mathlib.Core.Path.{◌≡◌, refl, sym, ap, ◌∙◌}
use mathlib.Core.List.{List, [], ◌∷◌}
use Prim.Native.Nat.{ℕ, ◌-◌, ◌≤◌}
use lib.ListN.{get_or}
use native.Mathlib.Omega.{arith}
use Rattle.model.specs.Answers.{refused, reply, settle}
use Rattle.model.proofs.Replies.{reply_suc, settle_suc}
use Rattle.limits.specs.Refusals.{refusal_number}
use Rattle.limits.specs.declared.Refusal.{Refusal}
use Rattle.limits.specs.declared.Refusal.TheVariants.{BadImage, NotMfs, BadCount, BadPath, NotFound, WrongKind, Exists, BadName, NoRoom, TooLarge, Stale, BadSeek, EmptyWrite, NotEmpty, TooDeep, ShortWork, Damaged, PastEnd}

pub number_some : (r : Refusal) → 1 ≤ refusal_number r
number_some BadImage = omega arith
number_some NotMfs = omega arith
number_some BadCount = omega arith
number_some BadPath = omega arith
number_some NotFound = omega arith
number_some WrongKind = omega arith
number_some Exists = omega arith
number_some BadName = omega arith
number_some NoRoom = omega arith
number_some TooLarge = omega arith
number_some Stale = omega arith
number_some BadSeek = omega arith
number_some EmptyWrite = omega arith
number_some NotEmpty = omega arith
number_some TooDeep = omega arith
number_some ShortWork = omega arith
number_some Damaged = omega arith
number_some PastEnd = omega arith

-- by the refusal
pub reply-refused : {A : Type 0} {k : ℕ} (a : A) (r : Refusal) → k ≡ refusal_number r → reply k a ≡ refused (refusal_number r)
reply-refused {A} {k} a r e = rw e (reply_suc (refusal_number r) a (number_some r))

pub settle-refused : {A : Type 0} {k : ℕ} (x y : A) (r : Refusal) → k ≡ refusal_number r → settle k x y ≡ y
settle-refused {A} {k} x y r e = rw e (settle_suc (refusal_number r) x y (number_some r))

-- the refusals in the order of their numbers, with another one in the place of 18: each number is one refusal's
in_order : List Refusal
in_order = BadImage ∷ NotMfs ∷ BadCount ∷ BadPath ∷ NotFound ∷ WrongKind ∷ Exists ∷ BadName ∷ NoRoom ∷ TooLarge ∷ Stale ∷ BadSeek ∷ EmptyWrite ∷ NotEmpty ∷ TooDeep ∷ ShortWork ∷ Damaged ∷ Damaged ∷ PastEnd ∷ []

back : ℕ → Refusal
back k = get_or in_order (k - 1) Damaged

back_number : (r : Refusal) → back (refusal_number r) ≡ r
unfolding back in_order
back_number BadImage = refl
back_number NotMfs = refl
back_number BadCount = refl
back_number BadPath = refl
back_number NotFound = refl
back_number WrongKind = refl
back_number Exists = refl
back_number BadName = refl
back_number NoRoom = refl
back_number TooLarge = refl
back_number Stale = refl
back_number BadSeek = refl
back_number EmptyWrite = refl
back_number NotEmpty = refl
back_number TooDeep = refl
back_number ShortWork = refl
back_number Damaged = refl
back_number PastEnd = refl

pub number_one : (r q : Refusal) → refusal_number r ≡ refusal_number q → r ≡ q
number_one r q e = sym (back_number r) ∙ ap back e ∙ back_number q
