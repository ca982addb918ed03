-- C3: W1 to W5 as one test on the bytes of an image whose superblock gives the numbers g. Definitions alone.
use Rattle.std.specs.Prelude.{Bool, true, false, ◌&&◌, List, [], ◌∷◌, ℕ, zero, suc, ◌+◌, ◌-◌, ◌*◌, ltb, eqb}
use Rattle.std.proofs.Math.Option.{Option, none, some}
use Rattle.wire.specs.Pick.{zero_from}
use Rattle.bits.specs.Bit.{bit}
use Rattle.model.specs.Render.{count}
use Rattle.model.specs.Geometry.{area_of, Geo, block_size, map_at, data_at, map_bits, set_bits, used_count}
use Rattle.model.specs.Volume.{max_depth}
use Rattle.thm_survey.specs.Survey.{survey, seen_of}

-- W5: bit x is f x, for the first k bits.
unfoldable pub bits_are : List ℕ → ℕ → (ℕ → ℕ) → ℕ → Bool
bits_are I from f zero = true
bits_are I from f (suc k) = eqb (bit I from k) (f k) && bits_are I from f k

-- W2: each of the blocks lies below that address.
unfoldable pub all_below : ℕ → List ℕ → Bool
all_below e [] = true
all_below e (a ∷ l) = ltb a e && all_below e l

-- the bits of what was claimed, where something was; and each claimed block has one
unfoldable pub bits_of : Geo → List ℕ → Option (List ℕ) → Bool
bits_of g I none = false
bits_of g I (some seen) =
    bits_are I (block_size g * map_at g) (λ x. count (data_at g + x) seen) (map_bits g) && all_below (data_at g + map_bits g) seen

-- W1: the superblock's zeros; W2 to W4: the survey from the root on; W5: the bits of what was claimed, and the used count.
unfoldable pub whole : Geo → List ℕ → Bool
whole g I =
    zero_from I (block_size g * g.K + 18) (block_size g - 18)
    && (bits_of g I (seen_of (survey (area_of g) I max_depth (data_at g) [])) && eqb (used_count g I) (data_at g + set_bits I g))
