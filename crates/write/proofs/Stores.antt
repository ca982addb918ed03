-- What the code of a write knows before its stores, and where it ends.
use mathlib.Core.Path.{◌≡◌, sym, ap, ◌∙◌}
use mathlib.Core.List.{List}
use Prim.Native.Nat.{ℕ, ◌+◌, ◌≤◌, ◌<◌}
use native.Mathlib.Omega.{arith}
use mir.Syntax.{w32}
use mir.Val.{Fits}
use lib.ListN.{length}
use Rattle.model.specs.Answers.{accepted, refused, and_then}
use Rattle.limits.specs.Refusals.{refusal_number}
use Rattle.limits.specs.declared.Refusal.{Refusal}
use Rattle.super_block.specs.declared.SuperBlock.{SuperBlock}
use Rattle.super_block.specs.Super.{geo_of, Ready}
use Rattle.super_block.proofs.Fits.{ready_volume}
use Rattle.write_store.specs.Write.{wrote, CanWrite}
use Rattle.handle.specs.declared.Handle.{Handle}
use Rattle.std.specs.Prelude.{Result, Ok, IsErrAnd}
use Rattle.write.specs.Writing.{Target, target_of, image_at, written_image, grown_handle, handle_after, count_of}
use Rattle.write.specs.Written.{WriteIs}
use Rattle.write.proofs.Aims.{refused_as}
use Rattle.write.proofs.Targets.{accepted_can}

module _ (s : SuperBlock) (I : List ℕ) (h : Handle) (buf : List ℕ) where
  -- ---- where it goes

  module _ (x : Target) (q : accepted x ≡ target_of (geo_of s) I h (length buf)) where
    -- before the stores
    module _ (ok : Ready s I) where
      pub store_can : CanWrite (geo_of s) I x.entry x.place h.position (length buf)
      store_can = accepted_can (geo_of s) I ok.well.tree (ready_volume s I ok) h buf x (sym q)

      store_end : h.position + length buf ≤ 2147483647
      store_end = store_can.limit

      pub store_few : length buf < 4294967296
      store_few = omega (arith, store_end)

      pub store_sum : Fits w32 (h.position + length buf)
      store_sum = record { fits = omega (arith, store_end) }

    -- and behind them
    pub write_done : (time : ℕ) (J : List ℕ) (after : Handle) → J ≡ wrote (geo_of s) I x.entry x.place h.position buf time → after ≡ grown_handle h (length buf)
        → WriteIs (geo_of s) h buf time I J (record { answer = Ok (length buf); handle = after })
    unfolding count_of and_then written_image
    write_done time J after j g =
        record {
          answer = ap (count_of (length buf)) q;
          handle = g ∙ ap (handle_after h (length buf)) q;
          image = j ∙ ap (image_at (geo_of s) I h buf time) q;
        }

  -- ---- what refuses it: t is what code answers then

  pub write_refused : (time : ℕ) (k : Refusal) (t : Result ℕ Refusal) → refused (refusal_number k) ≡ target_of (geo_of s) I h (length buf) → IsErrAnd t (λ x. x ≡ k)
      → WriteIs (geo_of s) h buf time I I (record { answer = t; handle = h })
  unfolding count_of and_then written_image
  write_refused time k t q d =
      record {
        answer = refused_as t k d ∙ ap (count_of (length buf)) q;
        handle = ap (handle_after h (length buf)) q;
        image = ap (image_at (geo_of s) I h buf time) q;
      }
