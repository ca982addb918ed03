-- The directory that a changing call changes, and its own entry, which the way to it leads over. Definitions alone.
-- A is the data area: the size of its blocks, its first address and the volume's end.
use Rattle.std.specs.Prelude.{List, [], ◌∷◌, ℕ, ◌+◌, Some, None}
use Rattle.wire.specs.Pick.{pick}
use Rattle.block.specs.Block.{Area}
use Rattle.model.specs.Answers.{Reply, accepted, refused, and_then}
use Rattle.dir_entry.specs.Entry.{is_dir}
use Rattle.read_dir.specs.declared.Placed.{Placed}
use Rattle.read_dir.specs.Walk.{walk}
use Rattle.read_dir.specs.Finds.{find_in}
use Rattle.own_entry.specs.Own.{Own}
use Rattle.path.specs.Path.{steps}
use Rattle.dir.specs.Resolve.{on_placed, on_name}

-- C13: a holding directory: its first address, where its own entry stands, and its depth. The root is at depth 0 and has none.
pub record Hold : Type 0 where
  pub dir : ℕ
  pub own : Own
  pub depth : ℕ

abbrev pub root_hold : ℕ → Hold
root_hold D = record { dir = D; own = None; depth = 0 }

-- The directory that the entry x stands for, in a directory at depth k: its own entry is x. 6 where x is no directory's.
abbrev pub hold_at : ℕ → Placed → Reply Hold
hold_at k x =
    pick (is_dir x.entry.kind) (accepted (record { dir = x.entry.addr.0; own = Some x.place; depth = k + 1 })) (refused 6)

module _ (A : Area) (I : List ℕ) where
  -- The directory of the name x in the directory h.
  abbrev pub entered : Hold → List ℕ → Reply Hold
  entered h x = on_name x (on_placed (find_in x (walk A I h.dir)) (hold_at h.depth))

  -- The way along these names from the directory h on, as `resolve` goes it.
  unfoldable pub hold_from : List (List ℕ) → Hold → Reply Hold
  hold_from [] h = accepted h
  hold_from (x ∷ xs) h = and_then (entered h x) (hold_from xs)

  -- P4: the directory that a path's directory part leads to, which holds the last name
  abbrev pub hold_dir : List ℕ → Reply Hold
  hold_dir d = hold_from (steps d) (root_hold A.first)
