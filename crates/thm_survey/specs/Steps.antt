-- What the code of the check computes, step by step: what is claimed, without the tree that is found. Definitions alone.
use Rattle.std.specs.Prelude.{Bool, false, List, ℕ, zero, suc, eqb, Result, Ok, Err}
use Rattle.std.proofs.Math.Option.{Option, none, some}
use Rattle.wire.specs.Pick.{pick}
use Rattle.block.specs.Block.{Area}
use Rattle.model.specs.Tree.{Below, then, sum}
use Rattle.dir_entry.specs.declared.DirEntry.{DirEntry}
use Rattle.read_dir.specs.Walk.{Walk, item, finished, damaged, walk}
use Rattle.read_dir.specs.Finds.{sum_from}
use Rattle.check_names.specs.Names.{distinct}
use Rattle.thm_survey.specs.Survey.{RawBlock, all_names, Claimed, blocks_of, node_of, survey, seen_of}
use Rattle.limits.specs.declared.Damage.{Damage}

-- ---- the entries of a directory, in the order of its walk, each checked by f

unfoldable pub through : (DirEntry → List ℕ → Option (List ℕ)) → Walk → List ℕ → Option (List ℕ)
through f (item e a o x w) seen = then (f e seen) (through f w)
through f finished seen = some seen
through f damaged seen = none

-- W4: the size in a directory's entry is the sum
unfoldable pub is_total : ℕ → Result ℕ Damage → Bool
is_total size (Ok t) = eqb size t
is_total size (Err e) = false

-- the sum of what may be below a directory with d levels
abbrev pub sum_below : (d : ℕ) → Below d → ℕ
sum_below zero x = absurd x
sum_below (suc d) x = sum x

module _ (A : Area) (I : List ℕ) where
  -- A directory's blocks, with distinct names in them.
  unfoldable pub open_dir : ℕ → List ℕ → Option (Claimed (List RawBlock))
  open_dir a seen = then (blocks_of A I a seen) (λ c. pick (distinct (all_names c.found)) (some c) none)

  -- The check of a subdirectory where d levels may be below, and of an entry there.
  abbrev pub check_below : (d : ℕ) → ℕ → List ℕ → Option (Claimed (Below d))
  check_below zero a seen = none
  check_below (suc d) a seen = survey A I d a seen

  unfoldable pub entry_check : ℕ → DirEntry → List ℕ → Option (List ℕ)
  entry_check d e seen = seen_of (node_of A I (check_below d) (sum_below d) e.kind e seen)

  -- A directory at a: its blocks and names, then its entries.
  unfoldable pub dir_check : ℕ → ℕ → List ℕ → Option (List ℕ)
  dir_check d a seen = then (seen_of (open_dir a seen)) (through (entry_check d) (walk A I a))

  -- The same, where an entry gives its size.
  unfoldable pub sub_check : ℕ → ℕ → ℕ → List ℕ → Option (List ℕ)
  sub_check d a size seen =
      then (seen_of (open_dir a seen)) (λ s. pick (is_total size (sum_from 0 (walk A I a)))
      (through (entry_check d) (walk A I a) s) none)
