-- The marks in the work buffer, from block D on, and what the code's answers say of the survey. Definitions alone.
use Rattle.std.specs.Prelude.{◌≡◌, Bool, true, false, List, ℕ, ◌+◌, ◌*◌, ◌≤◌, ◌<◌, length, get_or}
use Rattle.std.proofs.Math.Option.{Option, none, some}
use Rattle.bits.specs.Bit.{bit}
use Rattle.block.specs.Block.{Area}
use Rattle.model.specs.Render.{count}
use Rattle.check_bitmap.specs.Tally.{mark_bytes}

-- C3: the marks in the work buffer: bit x says how often block D + x is claimed.
abbrev pub Marks : Area → List ℕ → List ℕ → Type 0
Marks A W seen = (x : ℕ) → x < 8 * mark_bytes A → bit W 0 x ≡ count (A.first + x) seen

-- Those after them stay.
pub record Beyond (A : Area) (W Z : List ℕ) : Type 0 where
  pub long : length Z ≡ length W
  pub rest : (j : ℕ) → mark_bytes A ≤ j → get_or Z j 0 ≡ get_or W j 0

-- The code's answer to a check f of what is claimed before: yes with the marks of what is claimed then, or no.
abbrev pub Answers : Area → (List ℕ → Option (List ℕ)) → List ℕ → List ℕ → Bool → Type 0
Answers A f W Z true = (seen : List ℕ) → Marks A W seen → (s : List ℕ) × (f seen ≡ some s) × Marks A Z s
Answers A f W Z false = (seen : List ℕ) → Marks A W seen → f seen ≡ none

pub record MarksAnswer (A : Area) (f : List ℕ → Option (List ℕ)) (W Z : List ℕ) (r : Bool) : Type 0 where
  pub beyond : Beyond A W Z
  pub answer : Answers A f W Z r

-- what a yes to a claim tells of the block
abbrev pub Inside : Area → ℕ → Bool → Type 0
Inside A a true = (A.first ≤ a) × (a < A.end)
Inside A a false = Unit {0}
