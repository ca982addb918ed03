-- What the functions of a write give. Definitions alone.
use Rattle.std.specs.Prelude.{◌≡◌, List, ℕ, length, Result}
use Rattle.model.specs.Answers.{Reply, accepted, given, when}
use Rattle.limits.specs.Says.{says}
use Rattle.limits.specs.declared.Refusal.{Refusal}
use Rattle.model.specs.Geometry.{Geo}
use Rattle.handle.specs.declared.Handle.{Handle}
use Rattle.handle.specs.declared.CountedOut.{CountedOut}
use Rattle.write.specs.Writing.{Target, too_long, no_room, target_of, written_image, handle_after, count_of}

-- what a byte count says
abbrev pub counted_says : Result ℕ Refusal → Reply ℕ
counted_says r = says r

-- O11: the last two refusals, 10 and 9, or the target
abbrev pub fits_at : Geo → List ℕ → Handle → ℕ → Target → Reply Target
fits_at g I h len t = given (when 10 (too_long h len)) (given (when 9 (no_room g I h len)) (accepted t))

-- C12: the answer, the handle and the image after a write of buf, where the image was I and is J.
pub record WriteIs (g : Geo) (h : Handle) (buf : List ℕ) (time : ℕ) (I J : List ℕ) (r : CountedOut) : Type 0 where
  pub answer : counted_says r.answer ≡ count_of (length buf) (target_of g I h (length buf))
  pub handle : r.handle ≡ handle_after h (length buf) (target_of g I h (length buf))
  pub image : J ≡ written_image g I h buf time
