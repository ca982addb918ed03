-- Which entries the search for a directory goes over without a look at the rest of them. Definitions alone.
use Rattle.std.specs.Prelude.{Bool, List, ℕ, Option, Result}
use Rattle.block.specs.Block.{Area}
use Rattle.read_dir.specs.Cursor.{Passed, Stepped}
use Rattle.read_dir.specs.declared.ReadDir.{ReadDir}
use Rattle.read_dir.specs.declared.Placed.{Placed}
use Rattle.limits.specs.declared.Damage.{Damage}
use Rattle.reached.specs.Reach.{on_dir, any_in}

-- Cursor d is past none but entries that are no directory's.
pub record PassedFiles (A : Area) (I : List ℕ) (c d : ReadDir) : Type 0 where
  pub all : (f : ℕ → Bool) → Passed A I (any_in (on_dir f)) c d

-- One step to d, made past such entries.
pub record SteppedDir (A : Area) (I : List ℕ) (c d : ReadDir) (r : Result (Option Placed) Damage) : Type 0 where
  pub from : ReadDir
  pub passed : PassedFiles A I c from
  pub stepped : Stepped A I from d r
