-- A directory's own entry: where it stands, and the image with its size and time renewed. B is the block size. Definitions alone.
use Rattle.std.specs.Prelude.{◌≡◌, List, [], ℕ, ◌+◌, ◌-◌, ◌*◌, ◌≤◌, length, Option, Some, None, Result, Ok, Err}
use Rattle.std.proofs.Math.Option.{some}
use Rattle.wire.specs.Be.{bytes, splice}
use Rattle.model.specs.Tree.{Name, Tree}
use Rattle.model.specs.Render.{own_time}
use Rattle.model.specs.Geometry.{area_of, Geo, block_size}
use Rattle.dir_entry.specs.Entry.{header, place_at}
use Rattle.limits.specs.declared.Damage.{Damage}
use Rattle.read_dir.specs.declared.Place.{Place}
use Rattle.read_dir.specs.Walk.{walk}
use Rattle.read_dir.specs.Finds.{sum_from}

-- Where a directory's own entry stands; the root has none.
abbrev pub Own : Type 0
Own = Option Place

-- The entry's fixed part lies in the image.
abbrev pub OwnIn : ℕ → List ℕ → Own → Type 0
OwnIn B I None = Unit {0}
OwnIn B I (Some p) = (B * p.block.0 + B ≤ length I) × (p.offset + header ≤ B - 5)

-- C13: the own entry with size z in its bytes 5 to 8 and time k in 9 to 16; the root has none.
abbrev pub own_renewed : ℕ → List ℕ → Own → ℕ → ℕ → List ℕ
own_renewed B I None z k = I
own_renewed B I (Some p) z k = splice (splice I (place_at B p.block.0 p.offset + 5) (bytes 4 z))
    (place_at B p.block.0 p.offset + 9) (bytes 8 k)

-- C13: the new sum is that of the directory whose first block is dir, as it is now. (A volume's directory has one.)
abbrev pub own_summed : ℕ → List ℕ → Own → ℕ → Result ℕ Damage → List ℕ
own_summed B I own time (Ok z) = own_renewed B I own z time
own_summed B I own time (Err e) = I

unfoldable pub sum_renewed : Geo → List ℕ → ℕ → Own → ℕ → List ℕ
sum_renewed g I dir own time = own_summed (block_size g) I own time (sum_from 0 (walk (area_of g) I dir))

-- That is where the own entry of the directory at path p of the tree stands: the root's path is empty, and it has none.
abbrev pub OwnOf : ℕ → (d : ℕ) → List Name → Tree d → Own → Type 0
OwnOf B d p t None = p ≡ []
OwnOf B d p t (Some q) = own_time B d p t ≡ some (place_at B q.block.0 q.offset + 9)
