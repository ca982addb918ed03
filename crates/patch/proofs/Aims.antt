-- Where a patch goes, as the code finds it: one law for each answer.
use mathlib.Core.Path.{◌≡◌, sym, ap, ◌∙◌}
use mathlib.Core.Bool.{Bool, true, false}
use mathlib.Core.List.{List}
use Prim.Native.Nat.{ℕ}
use native.Mathlib.Omega.{arith}
use borrow.Author.Tests.{eq-eqb, ne_eqb}
use Rattle.model.specs.Answers.{Reply, accepted, refused, and_then}
use Rattle.model.specs.Geometry.{Geo}
use Rattle.model.proofs.Replies.{given_yes, given_no}
use Rattle.limits.specs.Refusals.{refusal_number}
use Rattle.limits.specs.declared.Refusal.{Refusal}
use Rattle.handle.specs.declared.Handle.{Handle}
use Rattle.std.specs.Prelude.{Result, IsErrAnd}
use Rattle.write.specs.Writing.{Target, held_at}
use Rattle.limits.specs.Says.{says}
use Rattle.write.proofs.Aims.{held_then, refused_as}
use Rattle.patch.specs.Patching.{past_end, ends_at, patch_target}

-- ---- 19

module _ (h : Handle) (len : ℕ) (x : Target) (a : Bool) (ea : a ≡ past_end h len) where
  pub ends-past : a ≡ true → refused 19 ≡ ends_at h len x
  ends-past t = sym (given_yes 19 _ (omega arith) (sym ea ∙ t))

  pub ends_in : a ≡ false → accepted x ≡ ends_at h len x
  ends_in t = sym (given_no 19 _ (sym ea ∙ t))

-- ---- 13, 11

module _ (g : Geo) (I : List ℕ) (h : Handle) (len : ℕ) where
  pub aim_empty : len ≡ 0 → refused 13 ≡ patch_target g I h len
  unfolding patch_target
  aim_empty e = sym (given_yes 13 _ (omega arith) (eq-eqb len 0 e))

  module _ (z : len ≡ 0 → ⊥) where
    pub aim_then : patch_target g I h len ≡ and_then (held_at g I h) (ends_at h len)
    unfolding patch_target
    aim_then = search (given_no 13 _ (ne_eqb len 0 z) ∙ held_then g I h (ends_at h len))

    -- the entry that was found, and what is refused of it
    pub aim_held : (x : Target) (r : Reply Target) → accepted x ≡ held_at g I h → r ≡ ends_at h len x → r ≡ patch_target g I h len
    unfolding and_then
    aim_held x r q k = k ∙ sym (aim_then ∙ ap (λ (y : Reply Target). and_then y (ends_at h len)) (sym q))

    -- or none: t is what code answers then
    pub aim_not : (k : Refusal) (t : Result Target Refusal) → refused (refusal_number k) ≡ held_at g I h → IsErrAnd t (λ x. x ≡ k) → says t ≡ patch_target g I h len
    unfolding and_then
    aim_not k t q d = refused_as t k d ∙ sym (aim_then ∙ ap (λ (y : Reply Target). and_then y (ends_at h len)) (sym q))
