use borrow.Author.Rules.{rules}
use Rattle.read_dir.proofs.Along.{step_less}
use Rattle.check_volume.proofs.Walks.{rest_no, rest_on, rest_end, rest_bad, inside_image, entry_file, entry_device, entry_deep, entry_shut, entry_size, entry_down}
use Rattle.super_block.proofs.Fits.{area_inside}
use Rattle.check_volume.proofs.+walk_dir_walk_entry.Goals as goal

pub walk_dir-new-c-requires : goal.walk_dir-new-c-requires
walk_dir-new-c-requires t c = search area_inside

pub walk_dir-returns-then-not-walk_entry : goal.walk_dir-returns-then-not-walk_entry
walk_dir-returns-then-not-walk_entry t c = search (rest_no, c.in-Ok-Some.ensures)

pub walk_dir-loop-x-smaller : goal.walk_dir-loop-x-smaller
walk_dir-loop-x-smaller t c = search step_less

pub walk_dir-loop-x-preserved : goal.walk_dir-loop-x-preserved
walk_dir-loop-x-preserved t c = (search rules, search (rest_on, c.in-Ok-Some.ensures))

pub walk_dir-returns-in-Ok-None : goal.walk_dir-returns-in-Ok-None
walk_dir-returns-in-Ok-None t c = search (rest_end, c.in-Ok-None.ensures)

pub walk_dir-returns-in-Err : goal.walk_dir-returns-in-Err
walk_dir-returns-in-Err t c = search (rest_bad, c.in-Err.ensures)

pub walk_entry-returns-in-File : goal.walk_entry-returns-in-File
walk_entry-returns-in-File t c = search entry_file

pub walk_entry-returns-in-Device : goal.walk_entry-returns-in-Device
walk_entry-returns-in-Device t c = search entry_device

pub walk_entry-returns-then-depth-eq0 : goal.walk_entry-returns-then-depth-eq0
walk_entry-returns-then-depth-eq0 t c = search entry_deep

pub walk_entry-returns-then-not-open_dir : goal.walk_entry-returns-then-not-open_dir
walk_entry-returns-then-not-open_dir t c = search (entry_shut, inside_image)

pub walk_entry-returns-then-sized : goal.walk_entry-returns-then-sized
walk_entry-returns-then-sized t c = search (entry_down, inside_image, rules)

pub walk_entry-returns-else-sized : goal.walk_entry-returns-else-sized
walk_entry-returns-else-sized t c = search (entry_size, inside_image)
