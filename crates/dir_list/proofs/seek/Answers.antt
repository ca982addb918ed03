use Rattle.read_dir.proofs.Along.{seek_again, seek_end, seek_bad, seek_at}
use Rattle.super_block.proofs.Fits.{area_inside}
use Rattle.dir_list.proofs.seek.Goals as goal

pub new-c-requires : goal.new-c-requires
new-c-requires c = search area_inside

pub returns-in-Ok-None : goal.returns-in-Ok-None
returns-in-Ok-None c = search (seek_end, c.in-Ok-None.ensures)

pub returns-in-Err : goal.returns-in-Err
returns-in-Err c = search (seek_bad, c.in-Err.ensures)

pub loop-preserved : goal.loop-preserved
loop-preserved c = search seek_again

pub returns : goal.returns
returns c = search seek_at
