-- What read knows where it answers: one law for each answer.
use mathlib.Core.Path.{◌≡◌, refl, sym, ◌∙◌, subst}
use mathlib.Core.List.{List, [], ◌∷◌}
use Prim.Native.Nat.{ℕ}
use native.Mathlib.Omega.{arith}
use lib.ListN.{length}
use Rattle.std.specs.Prelude.{Ok, Err}
use Rattle.block.specs.Block.{Area}
use Rattle.model.specs.Answers.{first_of}
use Rattle.limits.specs.declared.Refusal.{Refusal}
use Rattle.model.specs.Geometry.{Mount, open_refusal}
use Rattle.model.proofs.Opens.{first_of_head, first_of_tail, first_of_one}
use Rattle.limits.proofs.Numbers.{number_some}
use Rattle.super_block.specs.declared.SuperBlock.{SuperBlock}
use Rattle.super_block.specs.Super.{area_in, Fit, OpenedIs}
use Rattle.super_block.proofs.Fits.{opened_fit}
use Rattle.handle.specs.declared.Handle.{Handle}
use Rattle.handle.specs.declared.CountedOut.{CountedOut}
use Rattle.file_read.specs.Read.{read_refusal, bytes_read}
use Rattle.file_read.specs.Post.{CountedIs, ReadIs}
use Rattle.call_read.specs.Reading.{area_at, read_call, Reads}
use Rattle.call_read.proofs.Starts.{area_at_lem}

module _ (M : Mount) (I : List ℕ) where
  pub read_no : (x : Refusal) → OpenedIs M I (Err x) → (h : Handle) (buf : List ℕ) → Reads M I h buf buf (record { answer = Err x; handle = h })
  unfolding read_call
  read_no x f h buf = record { refused = first_of_head _ _ (omega (arith, f, number_some x)) ∙ f; handle = refl; kept = refl }

  module _ (s : SuperBlock) (o : OpenedIs M I (Ok s)) where
    pub opened_at : Fit s I
    opened_at = opened_fit M I s o.0 o.1

    pub read_at_lem : (h : Handle) (buf out : List ℕ) (q : CountedOut) → ReadIs (area_in s) I h buf out q → Reads M I h buf out q
    unfolding read_call
    read_at_lem h buf out q i =
        let c : read_refusal (area_at M I) I h (length buf)
        ≡ first_of (open_refusal M I ∷ (read_refusal (area_at M I) I h (length buf) ∷ []))
        = sym (first_of_tail _ _ o.0 ∙ first_of_one _) in
        subst (λ (k : ℕ). CountedIs k h q.handle (bytes_read (area_at M I) I h (length buf)) buf out q.answer) c
        (subst (λ (A : Area). ReadIs A I h buf out q) (area_at_lem M I s o) i)
