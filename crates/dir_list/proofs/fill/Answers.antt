use Rattle.read_dir.proofs.Along.{entry_inside, entry_ends, entry_within, step_less, fill_again, rest_again, fill_full, fill_end, fill_bad}
use native.Mathlib.Omega.{arith}
use Rattle.dir_list.proofs.fill.Goals as goal

pub returns-then-cap-used : goal.returns-then-cap-used
returns-then-cap-used c = search (fill_full, c.in-Ok-Some.ensures)

pub put_record-requires : goal.put_record-requires
put_record-requires c =
    record {
      len_in_bounds = omega arith;
      size_in_bounds = search (entry_inside, c.in-Ok-Some.ensures);
      len_bound = search (entry_ends, c.in-Ok-Some.ensures);
    }

pub loop-x-smaller : goal.loop-x-smaller
loop-x-smaller c = search step_less

pub loop-x-preserved : goal.loop-x-preserved
loop-x-preserved c =
    (search (fill_again, entry_within, c.in-Ok-Some.ensures), search (rest_again, entry_within, c.in-Ok-Some.ensures), omega arith, omega arith, omega arith, omega arith)

pub returns-in-Ok-None : goal.returns-in-Ok-None
returns-in-Ok-None c = search (fill_end, c.in-Ok-None.ensures)

pub returns-in-Err : goal.returns-in-Err
returns-in-Err c = search (fill_bad, c.in-Err.ensures)
