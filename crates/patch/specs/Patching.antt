-- Patching by a handle, on an opened volume: the refusals in the order O14, the image and the handle. Definitions alone.
-- (Those of the check come before: O8.)
use Rattle.std.specs.Prelude.{◌≡◌, Bool, List, ℕ, ◌+◌, ltb, eqb, length}
use Rattle.model.specs.Answers.{Reply, accepted, refused, when, given}
use Rattle.model.specs.Geometry.{Geo}
use Rattle.handle.specs.declared.Handle.{Handle}
use Rattle.handle.specs.declared.CountedOut.{CountedOut}
use Rattle.handle.specs.Handles.{moved}
use Rattle.write.specs.Writing.{Target, where_held, count_of}
use Rattle.write.specs.Written.{counted_says}
use Rattle.patch_store.specs.Patch.{patched}

-- R19: with len bytes at the position; of a current handle the size is its file's
unfoldable pub past_end : Handle → ℕ → Bool
past_end h len = ltb h.size (h.position + len)

abbrev pub ends_at : Handle → ℕ → Target → Reply Target
ends_at h len t = given (when 19 (past_end h len)) (accepted t)

module _ (g : Geo) (I : List ℕ) where
  -- O14, R13: a patch of len bytes: 13, 11, 19, or where it goes.
  unfoldable pub patch_target : Handle → ℕ → Reply Target
  patch_target h len = given (when 13 (eqb len 0)) (where_held g I h (λ t. ends_at h len t))

  -- The image afterwards: the buffer lies over the file's bytes, or all is as it was.
  abbrev pub patched_at : Handle → List ℕ → ℕ → Reply Target → List ℕ
  patched_at h buf time (accepted t) = patched g I t.entry t.place h.position buf time
  patched_at h buf time (refused r) = I

  unfoldable pub patched_image : Handle → List ℕ → ℕ → List ℕ
  patched_image h buf time = patched_at h buf time (patch_target h (length buf))

-- H5, H6: the handle after an accepted patch of len bytes, its position behind them; a refused one hands back the very handle.
abbrev pub handle_behind : {A : Type 0} → Handle → ℕ → Reply A → Handle
handle_behind h len (accepted t) = moved h (h.position + len)
handle_behind h len (refused r) = h

-- C19: the answer, the handle and the image after a patch of buf, where the image was I and is J.
pub record PatchIs (g : Geo) (h : Handle) (buf : List ℕ) (time : ℕ) (I J : List ℕ) (r : CountedOut) : Type 0 where
  pub answer : counted_says r.answer ≡ count_of (length buf) (patch_target g I h (length buf))
  pub handle : r.handle ≡ handle_behind h (length buf) (patch_target g I h (length buf))
  pub image : J ≡ patched_image g I h buf time
