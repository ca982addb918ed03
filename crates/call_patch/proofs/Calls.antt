-- From a checked volume to the answer, the image and the handle of a patch.
use mathlib.Core.Path.{◌≡◌, sym, ap, ◌∙◌}
use mathlib.Core.List.{List}
use Prim.Native.Nat.{ℕ}
use lib.ListN.{length}
use Rattle.std.specs.Prelude.{Ok, Err}
use Rattle.model.specs.Answers.{refused, and_then, given}
use Rattle.limits.specs.Refusals.{refusal_number}
use Rattle.limits.specs.declared.Refusal.{Refusal}
use Rattle.model.specs.Geometry.{Mount, Geo, geo_at}
use Rattle.model.proofs.Replies.{settle-none, given_none, given_some}
use Rattle.limits.proofs.Numbers.{number_some, settle-refused}
use Rattle.super_block.specs.declared.SuperBlock.{SuperBlock}
use Rattle.super_block.specs.Super.{geo_of}
use Rattle.super_block.proofs.Fits.{opened-geo}
use Rattle.handle.specs.declared.Handle.{Handle}
use Rattle.handle.specs.declared.CountedOut.{CountedOut}
use Rattle.write.specs.Writing.{count_of}
use Rattle.patch.specs.Patching.{patch_target, patched_image, handle_behind, PatchIs}
use Rattle.call_volume.specs.Checking.{check_refusal, Checked}
use Rattle.call_patch.specs.Patches.{patch_reply, Patches}

module _ (M : Mount) (I W Z : List ℕ) (h : Handle) (buf : List ℕ) (time : ℕ) where
  pub patch_no : (x : Refusal) → Checked M I W (Err x) Z → Patches M I W h buf time (record { answer = Err x; handle = h }) I Z
  unfolding patch_reply count_of and_then
  patch_no x c =
      let g : refused (refusal_number x) ≡ given (check_refusal M I (length W)) (patch_target (geo_at M I) I h (length buf))
      = sym (given_some (refusal_number x) _ (number_some x) c.answer) in
      record {
        answer = ap (count_of (length buf)) g;
        handle = ap (handle_behind h (length buf)) g;
        image = sym (settle-refused _ I x c.answer);
        work = c.work;
      }

  pub patch_yes : (s : SuperBlock) → Checked M I W (Ok s) Z → (o : CountedOut) (J : List ℕ) → PatchIs (geo_of s) h buf time I J o → Patches M I W h buf time o J Z
  unfolding patch_reply
  patch_yes s c o J w =
      let g : geo_of s ≡ geo_at M I = opened-geo M I s c.answer.1 in
      let t : patch_target (geo_of s) I h (length buf) ≡ given (check_refusal M I (length W)) (patch_target (geo_at M I) I h (length buf))
      = ap (λ (x : Geo). patch_target x I h (length buf)) g ∙ sym (given_none _ c.answer.0) in
      record {
        answer = w.answer ∙ ap (count_of (length buf)) t;
        handle = w.handle ∙ ap (handle_behind h (length buf)) t;
        image = w.image ∙ ap (λ (x : Geo). patched_image x I h buf time) g ∙ sym (settle-none _ I c.answer.0);
        work = c.work;
      }
