use Rattle.std.proofs.Common.{◌≡◌, length, ◌+◌, ◌*◌}
use Rattle.super_block.specs.Super.{area_in}
use Rattle.read_dir.specs.Cursor.{cursor_walk, items}
use Rattle.thm_survey.specs.Steps.{entry_check}
use Rattle.check_volume.proofs.Walks.{Rest}
use Rattle.check_volume.proofs.+walk_dir_walk_entry.Given as goal

abbrev pub decreases-walk_dir : goal.decreases-walk_dir
decreases-walk_dir l = 2 * l.depth + 1

abbrev pub decreases-walk_entry : goal.decreases-walk_entry
decreases-walk_entry l = 2 * l.depth

abbrev pub invariant-walk_dir-loop-x : goal.invariant-walk_dir-loop-x
invariant-walk_dir-loop-x l =
    (length l.work ≡ length l.initial.work)
    × Rest (area_in l.v.s) (entry_check (area_in l.v.s) l.v.img.now l.depth) l.initial.work (cursor_walk (area_in l.v.s) l.v.img.now l.initial.c) l.work (cursor_walk (area_in l.v.s) l.v.img.now l.c)

abbrev pub decreases-walk_dir-loop-x : goal.decreases-walk_dir-loop-x
decreases-walk_dir-loop-x l = items (cursor_walk (area_in l.v.s) l.v.img.now l.c)
