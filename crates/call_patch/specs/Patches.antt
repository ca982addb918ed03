-- Patch on any image. Definitions alone. The order (O8, O14): 1, 2, 3, 16, 17, then 13, 11, 19.
use Rattle.std.specs.Prelude.{◌≡◌, List, ℕ, length}
use Rattle.model.specs.Answers.{Reply, settle, given}
use Rattle.model.specs.Geometry.{Mount, geo_at}
use Rattle.handle.specs.declared.Handle.{Handle}
use Rattle.handle.specs.declared.CountedOut.{CountedOut}
use Rattle.write.specs.Writing.{Target, count_of}
use Rattle.limits.specs.Says.{says}
use Rattle.patch.specs.Patching.{patch_target, patched_image, handle_behind}
use Rattle.call_volume.specs.Checking.{work_after, check_refusal}

-- O14: with a work buffer of len bytes, a patch of size bytes through the handle h
unfoldable pub patch_reply : Mount → List ℕ → ℕ → Handle → ℕ → Reply Target
patch_reply M I len h size = given (check_refusal M I len) (patch_target (geo_at M I) I h size)

-- C19: a patch of the bytes buf through the handle h, with the work buffer W: the byte count, the new handle, the image J and the
-- buffer Z.
pub record Patches (M : Mount) (I W : List ℕ) (h : Handle) (buf : List ℕ) (time : ℕ) (o : CountedOut)
    (J Z : List ℕ) : Type 0 where
  pub answer : says o.answer ≡ count_of (length buf) (patch_reply M I (length W) h (length buf))
  pub handle : o.handle ≡ handle_behind h (length buf) (patch_reply M I (length W) h (length buf))
  pub image : J ≡ settle (check_refusal M I (length W)) (patched_image (geo_at M I) I h buf time) I
  pub work : Z ≡ work_after M I W
