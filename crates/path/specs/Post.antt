-- What the functions give: the full path of a call, and the pieces of a directory part. Definitions alone.
use Rattle.std.specs.Prelude.{◌≡◌, Bool, true, false, List, [], ℕ, ◌≤◌, length, Option, Some, None, Result, Ok, Err}
use Rattle.wire.specs.Be.{splice}
use Rattle.limits.specs.declared.Refusal.{Refusal}
use Rattle.limits.specs.declared.Refusal.TheVariants.{BadPath}
use Rattle.path.specs.Path.{path_limit, real_path, bad_path, split}

-- The path q is accepted and stands at the start of the buffer, which was l and is m; n is its length.
pub record Stores (bad : Bool) (q l m : List ℕ) (n : ℕ) : Type 0 where
  pub good : bad ≡ false
  pub long : n ≡ length q
  pub fits : n ≤ path_limit
  pub stored : m ≡ splice l 0 q

-- R4: it is refused by r, and the buffer is as it was.
pub record Leaves (bad : Bool) (l m : List ℕ) (r : Refusal) : Type 0 where
  pub refused : bad ≡ true
  pub kept : m ≡ l
  pub why : r ≡ BadPath

abbrev pub PathIs : Bool → List ℕ → List ℕ → List ℕ → Result ℕ Refusal → Type 0
PathIs bad q l m (Ok n) = Stores bad q l m n
PathIs bad q l m (Err r) = Leaves bad l m r

-- The full path of a call: 4, or its length and its bytes.
abbrev pub RealIs : List ℕ → List ℕ → List ℕ → List ℕ → Result ℕ Refusal → Type 0
RealIs cwd p l m r = PathIs (bad_path cwd p) (real_path cwd p) l m r

-- P4: the pieces of what is left of a directory part; none where nothing is left
abbrev pub pieces : Option (List ℕ) → List (List ℕ)
pieces None = []
pieces (Some l) = split l
