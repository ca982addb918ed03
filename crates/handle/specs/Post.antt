-- What the functions give: the answer of a seek with the handle that it hands back, and what refuses a handle. Definitions alone.
-- A is the data area: the size of its blocks, its first address and the volume's end.
use Rattle.std.specs.Prelude.{◌≡◌, List, [], ◌∷◌, ℕ, Result, Ok, Err}
use Rattle.block.specs.Block.{Area}
use Rattle.model.specs.Answers.{when, first_of}
use Rattle.limits.specs.Refusals.{refusal_number}
use Rattle.read_dir.specs.Walk.{walk}
use Rattle.handle.specs.declared.Handle.{Handle}
use Rattle.handle.specs.declared.SeekFrom.{SeekFrom}
use Rattle.limits.specs.declared.Refusal.{Refusal}
use Rattle.handle.specs.declared.Sought.{Sought}
use Rattle.handle.specs.Handles.{stale_fields, moved, target, place_in, seek_refusal, held_in}

-- the number of an answer's refusal, 0 for none
abbrev pub answer_number : {A : Type 0} → Result A Refusal → ℕ
answer_number (Ok _) = 0
answer_number (Err r) = refusal_number r

-- ---- seek

-- C8, O7: the position where it goes, or the number that refuses it.
abbrev pub AimedIs : Handle → SeekFrom → Result ℕ Refusal → Type 0
AimedIs h from (Ok p) = (seek_refusal h from ≡ 0) × (p ≡ place_in (target h from))
AimedIs h from (Err r) = seek_refusal h from ≡ refusal_number r

-- C8, H5: the answer, and the handle after it: moved to the target, or the very one given.
abbrev pub MovedIs : Handle → SeekFrom → Handle → Result (Unit {0}) Refusal → Type 0
MovedIs h from g (Ok _) = (seek_refusal h from ≡ 0) × (g ≡ moved h (place_in (target h from)))
MovedIs h from g (Err r) = (seek_refusal h from ≡ refusal_number r) × (g ≡ h)

abbrev pub SoughtIs : Handle → SeekFrom → Sought → Type 0
SoughtIs h from s = MovedIs h from s.handle s.answer

-- ---- the check of a handle

module _ (A : Area) (I : List ℕ) where
  -- What the handle's own fields, and then its directory, refuse it by.
  abbrev pub handle_refusal : Handle → ℕ
  handle_refusal h = first_of (when 11 (stale_fields h) ∷ (held_in h (walk A I h.dir.0) ∷ []))
