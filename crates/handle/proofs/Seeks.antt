-- Seeking: a handle's own fields, the target as code computes it, and the answer.
use Rattle.std.specs.Prelude.{Option, None, Result, Ok, Err, MatchOption, unsigned_abs}
use Rattle.std.specs.Result.{OkIff, result_ok}
use Rattle.std.specs.Int.{FitsUnsignedBits}
use Rattle.std.specs.Bool.{then_some}
use Rattle.std.specs.Option.{ok_or}
use Rattle.limits.specs.declared.Refusal.{Refusal}
use Rattle.limits.specs.declared.Refusal.TheVariants.{BadSeek}
use Rattle.handle.specs.Post.{AimedIs}
use mathlib.Core.Path.{◌≡◌, refl, sym, ap, ◌∙◌, subst}
use mathlib.Core.Bool.{Bool, true, false, not, cond, ◌||◌}
use mathlib.Core.List.{[]}
use mathlib.Core.Logic.{◌⊎◌, inl, inr}
use Prim.Native.Nat.{ℕ, suc, ◌-◌, ◌≤◌, ◌<◌}
use native.Mathlib.Omega.{arith}
use lib.Dec.{leb, ltb, eqb}
use lib.IntN.{ℤ, pos, negsuc, ◌+ℤ◌}
use lib.Signed.{mag}
use mir.Syntax.{w32, w64}
use mir.Val.{SFits, of_z, to_z}
use mir.Facts.{to_z-of_z}
use borrow.Author.Tests.{leb-true, ltb-false, eqb-false, not-false}
use Rattle.wire.proofs.Picks.{either}
use Rattle.model.specs.Volume.{file_limit}
use Rattle.model.proofs.Opens.{or_false, refuses, passes, passed, first_of_none}
use Rattle.handle.specs.declared.Handle.{Handle}
use Rattle.handle.specs.declared.SeekFrom.{SeekFrom}
use Rattle.handle.specs.declared.SeekFrom.TheVariants.{Start, Current, End}
use Rattle.handle.specs.Handles.{stale_fields, target, within, place_in, seek_refusal}

-- ---- the handle's own fields

-- what a handle that is not stale by its fields has
pub record Fresh (h : Handle) : Type 0 where
  pub place : h.position ≤ h.size
  pub limit : h.size ≤ file_limit
  pub some_name : 1 ≤ h.len
  pub few : h.len ≤ 255

pub fresh : (h : Handle) → stale_fields h ≡ false → Fresh h
unfolding stale_fields
fresh h e =
    let p = or_false (ltb h.size h.position) (ltb file_limit h.size || (eqb h.len 0 || ltb 255 h.len)) e in
    let q = or_false (ltb file_limit h.size) (eqb h.len 0 || ltb 255 h.len) p.1 in
    let r = or_false (eqb h.len 0) (ltb 255 h.len) q.1 in
    let z : h.len ≡ 0 → ⊥ = eqb-false _ _ r.0 in
    record { place = ltb-false _ _ p.0; limit = ltb-false _ _ q.0; some_name = omega arith; few = ltb-false _ _ r.1 }

pub short_name : (h : Handle) (b : Bool) → b ≡ stale_fields h → b ≡ false → h.len ≤ 255
short_name h b e t = (fresh h (sym e ∙ t)).few

-- ---- the position of a target z: r is its number of 32 bits, if it has one, and R what the test of the size says

pub position_is : {E : Type 0} (size : ℕ) (z t : ℤ) (r : Result ℕ E) (o q : Option ℕ) (R : ℕ → Bool → Type 0) → size < 4294967296 → t ≡ z
    → OkIff r (FitsUnsignedBits 32 t) (unsigned_abs t) → o ≡ result_ok r → MatchOption o (q ≡ None) (λ x. (b : Bool) × R x b × (q ≡ then_some b x))
    → ((x : ℕ) (b : Bool) → R x b → b ≡ leb x size) → q ≡ then_some (within size z) (place_in z)
position_is {E} size z t r o q R l e f g m w = go t r f (subst (λ (y : Option ℕ). MatchOption y (q ≡ None) Tested) g m) ∙ ap (λ (y : ℤ). then_some (within size y) (place_in y)) e
  where
    Tested : ℕ → Type 0
    Tested x = (b : Bool) × R x b × (q ≡ then_some b x)

    go : (t : ℤ) (r : Result ℕ E) → OkIff r (FitsUnsignedBits 32 t) (unsigned_abs t) → MatchOption (result_ok r) (q ≡ None) Tested → q ≡ then_some (within size t) (place_in t)
    go (pos n) (Ok x) (k, v) (b, u, h) = h ∙ ap (λ (c : Bool). then_some c x) (w x b u) ∙ ap (λ (y : ℕ). then_some (leb y size) y) v
    go (pos n) (Err y) k h = past (either (leb n size))
      where
        past : (leb n size ≡ true) ⊎ (leb n size ≡ false) → q ≡ then_some (leb n size) n
        past (inl c) = let below = leb-true n size c in absurd (k (omega arith))
        past (inr c) = h ∙ sym (ap (λ (d : Bool). then_some d n) c)
    go (negsuc n) (Ok x) (k, v) h = absurd k
    go (negsuc n) (Err y) k h = h

-- ---- the target, in 64 bits

less_mag : (a b : ℕ) → a < 4294967296 → b < 2147483648 → (t : Bool) → mag (cond t (negsuc (suc b - suc a)) (pos (a - suc b))) < 9223372036854775808
less_mag a b p q true = omega arith
less_mag a b p q false = omega arith

sum_mag : (a : ℕ) (i : ℤ) → a < 4294967296 → mag i < 2147483648 → mag (pos a +ℤ i) < 9223372036854775808
sum_mag a (pos b) p q = omega arith
sum_mag a (negsuc b) p q = less_mag a b p q (ltb a (suc b))

-- a number as code has it, in its bits
wide : (x : ℤ) → mag x < 9223372036854775808 → to_z w64 (of_z w64 x) ≡ x
wide x q = to_z-of_z {w = w64} (record { sfits = q })

-- x and y are the two numbers of a sum in 64 bits
sum_is : (a : ℕ) (i : ℤ) (x y : ℤ) → a < 4294967296 → mag i < 2147483648 → x ≡ pos a → y ≡ to_z w32 (of_z w32 i) → mag x < 9223372036854775808 → mag y < 9223372036854775808
    → to_z w64 (of_z w64 (to_z w64 (of_z w64 x) +ℤ to_z w64 (of_z w64 y))) ≡ pos a +ℤ i
sum_is a i x y p q ex ey mx my =
    let z : y ≡ i = ey ∙ to_z-of_z {w = w32} (record { sfits = q }) in
    let e : to_z w64 (of_z w64 x) +ℤ to_z w64 (of_z w64 y) ≡ pos a +ℤ i = λ j. (wide x mx ∙ ex) j +ℤ (wide y my ∙ z) j in
    to_z-of_z {w = w64} (subst (SFits w64) (sym e) (record { sfits = sum_mag a i p q })) ∙ e

module _ (h : Handle) (f : SeekFrom) where
  pub target-start : (k : ℕ) (x : ℤ) → x ≡ pos k → mag x < 9223372036854775808 → f ≡ Start k → to_z w64 (of_z w64 x) ≡ target h f
  unfolding target
  target-start k x p q e = wide x q ∙ p ∙ sym (ap (target h) e)

  pub target-current : (i x y : ℤ) → h.position < 4294967296 → mag i < 2147483648 → x ≡ pos h.position → y ≡ to_z w32 (of_z w32 i) → mag x < 9223372036854775808
      → mag y < 9223372036854775808 → f ≡ Current i → to_z w64 (of_z w64 (to_z w64 (of_z w64 x) +ℤ to_z w64 (of_z w64 y))) ≡ target h f
  unfolding target
  target-current i x y p q ex ey mx my e = sum_is h.position i x y p q ex ey mx my ∙ sym (ap (target h) e)

  pub target_end : (i x y : ℤ) → h.size < 4294967296 → mag i < 2147483648 → x ≡ pos h.size → y ≡ to_z w32 (of_z w32 i) → mag x < 9223372036854775808
      → mag y < 9223372036854775808 → f ≡ End i → to_z w64 (of_z w64 (to_z w64 (of_z w64 x) +ℤ to_z w64 (of_z w64 y))) ≡ target h f
  unfolding target
  target_end i x y p q ex ey mx my e = sum_is h.size i x y p q ex ey mx my ∙ sym (ap (target h) e)

-- ---- the answer: b is what the fields say

module _ (h : Handle) (f : SeekFrom) (b : Bool) (e₀ : b ≡ stale_fields h) where
  pub seek_stale : b ≡ true → seek_refusal h f ≡ 11
  unfolding seek_refusal
  seek_stale t = refuses 11 _ (omega arith) (sym e₀ ∙ t)

  -- z is the target as code has it
  pub seek_aimed : (z : ℤ) (o : Option ℕ) (r : Result ℕ Refusal) → b ≡ false → z ≡ target h f → mag z < 9223372036854775808
      → o ≡ then_some (within h.size (to_z w64 (of_z w64 z))) (place_in (to_z w64 (of_z w64 z))) → r ≡ ok_or o BadSeek → AimedIs h f r
  unfolding seek_refusal
  seek_aimed z o r t g q u v =
      let w : to_z w64 (of_z w64 z) ≡ target h f = to_z-of_z {w = w64} (record { sfits = q }) ∙ g in
      let x : r ≡ ok_or (then_some (within h.size (target h f)) (place_in (target h f))) BadSeek
      = v ∙ ap (λ (y : Option ℕ). ok_or y BadSeek) (u ∙ ap (λ (y : ℤ). then_some (within h.size y) (place_in y)) w) in
      subst (AimedIs h f) (sym x) (go (within h.size (target h f)) refl)
    where
      go : (d : Bool) → within h.size (target h f) ≡ d → AimedIs h f (ok_or (then_some d (place_in (target h f))) BadSeek)
      go true e = (passes 11 _ (sym e₀ ∙ t) ∙ passes 12 [] (ap not e) ∙ first_of_none, refl)
      go false e = passes 11 _ (sym e₀ ∙ t) ∙ refuses 12 [] (omega arith) (ap not e)

-- ---- a handle that is moved within its file is as good as it was

-- what an accepted seek tells: the handle is not stale, and the target lies in the file
seek_passed : (h : Handle) (f : SeekFrom) → seek_refusal h f ≡ 0 → (stale_fields h ≡ false) × (within h.size (target h f) ≡ true)
unfolding seek_refusal
seek_passed h f e =
    let p = passed 11 (stale_fields h) _ (omega arith) e in
    let q = passed 12 (not (within h.size (target h f))) [] (omega arith) p.1 in
    (p.0, not-false _ q.0)

within_size : (s : ℕ) (z : ℤ) → within s z ≡ true → place_in z ≤ s
within_size s (pos t) e = leb-true t s e
within_size s (negsuc t) e = omega arith
