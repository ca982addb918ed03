-- What the code of a patch knows before its stores, and where it ends.
use mathlib.Core.Path.{◌≡◌, sym, ap, ◌∙◌}
use mathlib.Core.List.{List}
use Prim.Native.Nat.{ℕ, ◌+◌, ◌≤◌, ◌<◌}
use native.Mathlib.Omega.{arith}
use mir.Syntax.{w32}
use mir.Val.{Fits}
use lib.ListN.{length}
use Rattle.model.specs.Answers.{accepted, refused, and_then}
use Rattle.limits.specs.Refusals.{refusal_number}
use Rattle.limits.specs.declared.Refusal.{Refusal}
use Rattle.super_block.specs.declared.SuperBlock.{SuperBlock}
use Rattle.super_block.specs.Super.{geo_of, Ready}
use Rattle.super_block.proofs.Fits.{ready_volume}
use Rattle.handle.specs.declared.Handle.{Handle}
use Rattle.handle.specs.Handles.{moved}
use Rattle.std.specs.Prelude.{Result, Ok, IsErrAnd}
use Rattle.write.specs.Writing.{Target, count_of}
use Rattle.patch_store.specs.Patch.{patched, CanPatch}
use Rattle.patch.specs.Patching.{patch_target, patched_at, patched_image, handle_behind, PatchIs}
use Rattle.write.proofs.Aims.{refused_as}
use Rattle.patch.proofs.Targets.{accepted_can}

module _ (s : SuperBlock) (I : List ℕ) (h : Handle) (buf : List ℕ) where
  -- ---- where it goes

  module _ (x : Target) (q : accepted x ≡ patch_target (geo_of s) I h (length buf)) where
    -- before the stores
    module _ (ok : Ready s I) where
      pub store_can : CanPatch (geo_of s) I x.entry x.place h.position (length buf)
      store_can = accepted_can (geo_of s) I ok.well.tree (ready_volume s I ok) h buf x (sym q)

      store_end : h.position + length buf ≤ 2147483647
      store_end = omega (arith, store_can.inside, store_can.limit)

      pub store_few : length buf < 4294967296
      store_few = omega (arith, store_end)

      pub store_sum : Fits w32 (h.position + length buf)
      store_sum = record { fits = omega (arith, store_end) }

    -- and behind them
    pub patch_done : (time : ℕ) (J : List ℕ) (after : Handle) → J ≡ patched (geo_of s) I x.entry x.place h.position buf time → after ≡ moved h (h.position + length buf)
        → PatchIs (geo_of s) h buf time I J (record { answer = Ok (length buf); handle = after })
    unfolding count_of and_then patched_image
    patch_done time J after j g =
        record {
          answer = ap (count_of (length buf)) q;
          handle = g ∙ ap (handle_behind h (length buf)) q;
          image = j ∙ ap (patched_at (geo_of s) I h buf time) q;
        }

  -- ---- what refuses it: t is what code answers then

  pub patch_refused : (time : ℕ) (k : Refusal) (t : Result ℕ Refusal) → refused (refusal_number k) ≡ patch_target (geo_of s) I h (length buf) → IsErrAnd t (λ x. x ≡ k)
      → PatchIs (geo_of s) h buf time I I (record { answer = t; handle = h })
  unfolding count_of and_then patched_image
  patch_refused time k t q d =
      record {
        answer = refused_as t k d ∙ ap (count_of (length buf)) q;
        handle = ap (handle_behind h (length buf)) q;
        image = ap (patched_at (geo_of s) I h buf time) q;
      }
