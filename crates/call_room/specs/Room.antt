-- C18: is there room for k blocks? Whether, and how many bytes of the bitmap that takes to tell. Definitions alone.
use Rattle.std.specs.Prelude.{◌≡◌, List, ℕ, Result}
use Rattle.model.specs.Answers.{reply}
use Rattle.model.specs.Geometry.{Mount, geo_at, open_refusal}
use Rattle.limits.specs.declared.Refusal.{Refusal}
use Rattle.limits.specs.Says.{says}
use Rattle.bitmap_room.specs.declared.Told.{Told}
use Rattle.bitmap_room.specs.Search.{room_in}

-- Is there room for k blocks on image I: the answer r. Refusals 1, 2, 3 (O13).
abbrev pub Asks : Mount → List ℕ → ℕ → Result Told Refusal → Type 0
Asks M I k r = says r ≡ reply (open_refusal M I) (room_in (geo_at M I) I k)
