-- Where a write goes, as the code finds it: one law for each answer.
use mathlib.Core.Path.{◌≡◌, refl, sym, ap, ◌∙◌}
use mathlib.Core.Bool.{Bool, true, false, not}
use mathlib.Core.List.{List}
use Prim.Native.Nat.{ℕ, zero, suc, ◌+◌, ◌-◌, ◌≤◌, ◌<◌}
use native.Mathlib.Omega.{arith}
use lib.Dec.{ltb}
use lib.ListN.{length}
use borrow.Author.Tests.{le-ltb, ltb-false, eq-eqb, ne_eqb}
use Rattle.model.specs.Answers.{Reply, accepted, refused, and_then, when, given}
use Rattle.limits.specs.Refusals.{refusal_number}
use Rattle.limits.specs.declared.Refusal.{Refusal}
use Rattle.block.specs.Block.{Area}
use Rattle.model.specs.Geometry.{Geo, block_size, area_of}
use Rattle.model.specs.Volume.{blocks_for, max_depth}
use Rattle.model.proofs.Replies.{given_yes, given_no}
use Rattle.super_block.specs.declared.SuperBlock.{SuperBlock}
use Rattle.super_block.specs.Super.{area_in, geo_of, Fit}
use Rattle.super_block.proofs.Fits.{area_is}
use Rattle.bitmap_block.specs.Bitmap.{clears}
use Rattle.limits.specs.Says.{says}
use Rattle.limits.specs.declared.Damage.{Damage}
use Rattle.limits.specs.declared.Refusal.TheVariants.{Stale, Damaged}
use Rattle.read_dir.specs.Walk.{walk}
use Rattle.reached.specs.Reach.{reaches}
use Rattle.handle.specs.declared.Handle.{Handle}
use Rattle.handle.specs.Handles.{stale_fields, current_in}
use Rattle.write.specs.Writing.{Target, on_current, too_long, blocks_to_add, unreached, no_room, where_held, held_at, target_of}
use Rattle.std.specs.Prelude.{Option, Some, None, Result, Ok, Err, IsErrAnd}
use Rattle.std.specs.Option.{ok_or}
use Rattle.write.specs.Written.{fits_at}

-- what an error says that came through a `?`
pub refused_as : {A : Type 0} (t : Result A Refusal) (k : Refusal) → IsErrAnd t (λ x. x ≡ k) → says t ≡ refused (refusal_number k)
refused_as (Ok a) k d = absurd d
refused_as (Err x) k d = ap (λ (y : Refusal). refused (refusal_number y)) d

-- ---- the limit and the room

module _ (h : Handle) (len : ℕ) where
  pub long_fits : (b : Bool) → b ≡ too_long h len → b ≡ false → h.position + len ≤ 2147483647
  unfolding too_long
  long_fits b e q = ltb-false _ _ (sym e ∙ q)

  pub len_fits : (b : Bool) → b ≡ too_long h len → b ≡ false → len < 4294967296
  len_fits b e q = omega (arith, long_fits b e q)

  module _ (s : SuperBlock) (I : List ℕ) (f : Fit s I) (old new : ℕ) (eo : old ≡ blocks_for s.size h.size)
      (en : new ≡ blocks_for s.size (h.position + len)) where
    added : new - old ≡ blocks_for (block_size (geo_of s)) (h.position + len) - blocks_for (block_size (geo_of s)) h.size
    added = (λ i. en i - eo i) ∙ ap (λ (B : ℕ). blocks_for B (h.position + len) - blocks_for B h.size) f.size

    pub room_asked : (b : Bool) → b ≡ ltb (length (clears (geo_of s) I)) (new - old) → b ≡ no_room (geo_of s) I h len
    unfolding no_room blocks_to_add
    room_asked b e = e ∙ ap (ltb (length (clears (geo_of s) I))) added

    pub room_kept : new ≤ old → false ≡ no_room (geo_of s) I h len
    room_kept p = room_asked false (sym (le-ltb (length (clears (geo_of s) I)) (new - old) (omega arith)))

-- ---- the directory

pub reach_told : (s : SuperBlock) (I : List ℕ) (h : Handle) (b : Bool) → Fit s I → b ≡ reaches (area_in s) I h.dir.0 max_depth s.area.0
    → not b ≡ unreached (geo_of s) I h
unfolding unreached
reach_told s I h b f e = ap not (e ∙ λ i. reaches (area_is f i) I h.dir.0 max_depth (f.area i))

-- ---- 10, 9

module _ (g : Geo) (I : List ℕ) (h : Handle) (len : ℕ) (x : Target) (a : Bool) (ea : a ≡ too_long h len) where
  pub fits_long : a ≡ true → refused 10 ≡ fits_at g I h len x
  fits_long t = sym (given_yes 10 _ (omega arith) (sym ea ∙ t))

  module _ (b : Bool) (na : a ≡ false) (eb : b ≡ no_room g I h len) where
    pub fits_full : b ≡ true → refused 9 ≡ fits_at g I h len x
    fits_full t = sym (given_no 10 _ (sym ea ∙ na) ∙ given_yes 9 _ (omega arith) (sym eb ∙ t))

    pub fits_in : b ≡ false → accepted x ≡ fits_at g I h len x
    fits_in t = sym (given_no 10 _ (sym ea ∙ na) ∙ given_no 9 _ (sym eb ∙ t))

-- ---- 11

-- what follows an answer, behind a refusal before it
given_then : {A C : Type 0} (k : ℕ) (q : Reply A) (f : A → Reply C) → given k (and_then q f) ≡ and_then (given k q) f
unfolding given and_then
given_then zero q f = refl
given_then (suc k) q f = refl

-- what the walk gives
abbrev Found : Type 0
Found = Result (Option Target) Damage

abbrev itself : Found → Reply Target
itself x = on_current x (λ t. accepted t)

on_then : {A : Type 0} (x : Found) (f : Target → Reply A) → on_current x f ≡ and_then (itself x) f
unfolding and_then
on_then (Ok (Some t)) f = refl
on_then (Ok None) f = refl
on_then (Err e) f = refl

module _ (g : Geo) (I : List ℕ) (h : Handle) where
  -- What follows a handle's entry, as an answer after another.
  pub held_then : {A : Type 0} (f : Target → Reply A) → where_held g I h f ≡ and_then (held_at g I h) f
  unfolding held_at
  held_then {A} f =
      let x : Found = current_in h (walk (area_of g) I h.dir.0) in
      ap (λ (q : Reply A). given (when 11 (stale_fields h)) (given (when 11 (unreached g I h)) q)) (on_then x f)
      ∙ ap (given (when 11 (stale_fields h))) (given_then (when 11 (unreached g I h)) (itself x) f)
      ∙ given_then (when 11 (stale_fields h)) (given (when 11 (unreached g I h)) (itself x)) f

  module _ (a : Bool) (ea : a ≡ stale_fields h) where
    pub held_stale : a ≡ true → refused 11 ≡ held_at g I h
    unfolding held_at
    held_stale t = sym (given_yes 11 _ (omega arith) (sym ea ∙ t))

    module _ (na : a ≡ false) (b : Bool) (eb : b ≡ unreached g I h) where
      pub held_unreached : b ≡ true → refused 11 ≡ held_at g I h
      unfolding held_at
      held_unreached t = sym (given_no 11 _ (sym ea ∙ na) ∙ given_yes 11 _ (omega arith) (sym eb ∙ t))

      -- what follows from what the directory holds
      pub held_entry : (x : Found) → b ≡ false → x ≡ current_in h (walk (area_of g) I h.dir.0) → itself x ≡ held_at g I h
      unfolding held_at
      held_entry x nb q =
          ap itself q ∙ sym (given_no 11 _ (sym ea ∙ na) ∙ given_no 11 _ (sym eb ∙ nb))

-- the same with the struct's own numbers: t is what code answers then
module _ (s : SuperBlock) (I : List ℕ) (h : Handle) (a : Bool) (ea : a ≡ stale_fields h) (na : a ≡ false) (b : Bool) (eb : b ≡ unreached (geo_of s) I h) (nb : b ≡ false)
    (f : Fit s I) (m : Found) (em : m ≡ current_in h (walk (area_in s) I h.dir.0)) (t : Result Target Refusal) where
  by_entry : (x : Found) → m ≡ x → itself x ≡ held_at (geo_of s) I h
  by_entry x q =
      held_entry (geo_of s) I h a ea na b eb x nb
      (sym q ∙ em ∙ ap (λ (A : Area). current_in h (walk A I h.dir.0)) (area_is f))

  pub held_found : (o : Option Target) → m ≡ Ok o → t ≡ ok_or o Stale → says t ≡ held_at (geo_of s) I h
  held_found (Some y) q e = ap says e ∙ by_entry (Ok (Some y)) q
  held_found None q e = ap says e ∙ by_entry (Ok None) q

  pub held_damaged : (d : Damage) → m ≡ Err d → IsErrAnd t (λ x. x ≡ Damaged) → says t ≡ held_at (geo_of s) I h
  held_damaged d q e = refused_as t Damaged e ∙ by_entry (Err d) q

-- ---- 13, 11, then 10, 9

module _ (g : Geo) (I : List ℕ) (h : Handle) (len : ℕ) where
  pub aim_empty : len ≡ 0 → refused 13 ≡ target_of g I h len
  unfolding target_of
  aim_empty e = sym (given_yes 13 _ (omega arith) (eq-eqb len 0 e))

  module _ (z : len ≡ 0 → ⊥) where
    pub aim_then : target_of g I h len ≡ and_then (held_at g I h) (fits_at g I h len)
    unfolding target_of
    aim_then = given_no 13 _ (ne_eqb len 0 z) ∙ held_then g I h (fits_at g I h len)

    -- the entry that was found, and what is refused of it
    pub aim_held : (x : Target) (r : Reply Target) → accepted x ≡ held_at g I h → r ≡ fits_at g I h len x → r ≡ target_of g I h len
    unfolding and_then
    aim_held x r q k = k ∙ sym (aim_then ∙ ap (λ (y : Reply Target). and_then y (fits_at g I h len)) (sym q))

    -- or none: t is what code answers then
    pub aim_not : (k : Refusal) (t : Result Target Refusal) → refused (refusal_number k) ≡ held_at g I h → IsErrAnd t (λ x. x ≡ k) → says t ≡ target_of g I h len
    unfolding and_then
    aim_not k t q d =
        refused_as t k d ∙ sym (aim_then ∙ ap (λ (y : Reply Target). and_then y (fits_at g I h len)) (sym q))
