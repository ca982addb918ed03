-- What is claimed, step by step, whatever is found.
use mathlib.Core.Path.{◌≡◌, refl}
use mathlib.Core.Bool.{Bool, true, false}
use mathlib.Core.Option.{Option, none, some}
use mathlib.Core.List.{List}
use Prim.Native.Nat.{ℕ}
use Rattle.wire.specs.Pick.{pick}
use Rattle.model.specs.Tree.{then}
use Rattle.thm_survey.specs.Survey.{Claimed, with_found, seen_of}

pub then-then : {X Y Z : Type 0} (o : Option X) (f : X → Option Y) (g : Y → Option Z) → then (then o f) g ≡ then o (λ x. then (f x) g)
unfolding then
then-then none f g = refl
then-then (some x) f g = refl

-- the same step, where it is the same for what is found
pub then_same : {X Y : Type 0} (o : Option X) (f g : X → Option Y) → ((x : X) → o ≡ some x → f x ≡ g x) → then o f ≡ then o g
unfolding then
then_same none f g h = refl
then_same (some x) f g h = h x refl

-- a test that must hold, before a step or after
pub then_test : {X Y : Type 0} (t : Bool) (o : Option X) (f : X → Option Y) → then (pick t o none) f ≡ pick t (then o f) none
unfolding then pick
then_test true o f = refl
then_test false o f = refl

-- what is claimed, step by step
pub seen_then : {X Y : Type 0} (o : Option X) (f : X → Option (Claimed Y)) → seen_of (then o f) ≡ then o (λ x. seen_of (f x))
unfolding seen_of then
seen_then none f = refl
seen_then (some x) f = refl

pub seen_test : {X : Type 0} (t : Bool) (o : Option (Claimed X)) → seen_of (pick t o none) ≡ pick t (seen_of o) none
unfolding seen_of then pick
seen_test true o = refl
seen_test false o = refl

-- the same of what is found already
pub then_pass : {X Y : Type 0} (t : Bool) (x : X) (f : X → Option Y) → then (pick t (some x) none) f ≡ pick t (f x) none
unfolding then pick
then_pass true x f = refl
then_pass false x f = refl

pub seen_pass : {X : Type 0} (t : Bool) (c : Claimed X) → seen_of (pick t (some c) none) ≡ pick t (some c.seen) none
unfolding seen_of
seen_pass t c = then_pass t c (λ c. some c.seen)

-- a test after a step, which must hold whatever is found
pub seen_after : {X : Type 0} (t : Bool) (o : Option (Claimed X)) → then o (λ c. pick t (some c.seen) none) ≡ pick t (seen_of o) none
unfolding seen_of then pick
seen_after true none = refl
seen_after true (some c) = refl
seen_after false none = refl
seen_after false (some c) = refl

-- what is done with what is claimed
pub then_seen : {X Y : Type 0} (o : Option (Claimed X)) (f : List ℕ → Option Y) → then (seen_of o) f ≡ then o (λ c. f c.seen)
unfolding seen_of then
then_seen none f = refl
then_seen (some c) f = refl

pub seen_with : {X Y : Type 0} (f : X → Y) (o : Option (Claimed X)) → seen_of (with_found f o) ≡ seen_of o
unfolding seen_of with_found then
seen_with f none = refl
seen_with f (some c) = refl
