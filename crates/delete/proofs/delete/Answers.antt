use mathlib.Core.Path.{◌∙◌}
use Rattle.dir.proofs.Answers.{said_no}
use Rattle.delete.specs.Post.{doomed}
use Rattle.delete.proofs.Answers.{begins_in, lies_from, lies_below, lies_ends, own_inside, deleted_done, image_done, deleted-refused, image_refused}
use Rattle.delete.proofs.delete.Goals as goal

pub returns-in_err-h-clause-result_value : goal.returns-in_err-h-clause-result_value
returns-in_err-h-clause-result_value c =
    said_no _ _ c.from_residual.ensures.1 ∙ deleted-refused c.args.s c.args.img.now c.args.full.now _ c.in_err-h.ensures

pub returns-in_err-h-clause-img_after : goal.returns-in_err-h-clause-img_after
returns-in_err-h-clause-img_after c = image_refused c.args.s c.args.img.now c.args.full.now _ c.in_err-h.ensures c.args.time

pub remove-requires-clause-dir_lt_blocks : goal.remove-requires-clause-dir_lt_blocks
remove-requires-clause-dir_lt_blocks c =
    begins_in c.args.s c.args.img.now c.args.full.now c.requires (doomed (c.in_ok-h.h, c.in_ok-h.x)) c.in_ok-h.ensures

pub remove-requires-clause-area_le_block : goal.remove-requires-clause-area_le_block
remove-requires-clause-area_le_block c =
    lies_from c.args.s c.args.img.now c.args.full.now c.requires (doomed (c.in_ok-h.h, c.in_ok-h.x)) c.in_ok-h.ensures

pub remove-requires-clause-block_lt_blocks : goal.remove-requires-clause-block_lt_blocks
remove-requires-clause-block_lt_blocks c =
    lies_below c.args.s c.args.img.now c.args.full.now c.requires (doomed (c.in_ok-h.h, c.in_ok-h.x)) c.in_ok-h.ensures

pub remove-requires-clause-len_bound : goal.remove-requires-clause-len_bound
remove-requires-clause-len_bound c =
    lies_ends c.args.s c.args.img.now c.args.full.now c.requires (doomed (c.in_ok-h.h, c.in_ok-h.x)) c.in_ok-h.ensures

pub remove-requires-clause-own_in : goal.remove-requires-clause-own_in
remove-requires-clause-own_in c =
    search (own_inside c.args.s c.args.img.now c.args.full.now c.requires (doomed (c.in_ok-h.h, c.in_ok-h.x)) c.in_ok-h.ensures)

pub returns-clause-result_value : goal.returns-clause-result_value
returns-clause-result_value c =
    deleted_done c.args.s c.args.img.now c.args.full.now c.requires (doomed (c.in_ok-h.h, c.in_ok-h.x)) c.in_ok-h.ensures

pub returns-clause-img_after : goal.returns-clause-img_after
returns-clause-img_after c =
    image_done c.args.s c.args.img.now c.args.full.now c.requires (doomed (c.in_ok-h.h, c.in_ok-h.x)) c.in_ok-h.ensures
    _ c.args.time (search c.remove.ensures)
