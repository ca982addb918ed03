use Rattle.bitmap_block.proofs.Answers.{reach_few, reach_place, hint_reach, first_at_lem, found_one}
use Rattle.bitmap_block.proofs.next_free.Goals as goal

pub lowest_clear-found-requires-clause-bits_fit : goal.lowest_clear-found-requires-clause-bits_fit
lowest_clear-found-requires-clause-bits_fit c = search reach_place

pub lowest_clear-found-requires-clause-limit_bound : goal.lowest_clear-found-requires-clause-limit_bound
lowest_clear-found-requires-clause-limit_bound c = search reach_few

pub lowest_clear-found-requires-clause-start_le_limit : goal.lowest_clear-found-requires-clause-start_le_limit
lowest_clear-found-requires-clause-start_le_limit c = search hint_reach

pub unwrap-requires : goal.unwrap-requires
unwrap-requires c = search found_one

pub returns : goal.returns
returns c = search first_at_lem
