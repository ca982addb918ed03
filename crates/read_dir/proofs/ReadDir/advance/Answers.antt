use Rattle.block.proofs.Blocks.{linked_inside}
use Rattle.super_block.proofs.Fits.{fit_inside, has_below}
use Prim.Native.Nat.{◌<◌}
use borrow.Author.Rules.{rules}
use Rattle.read_dir.proofs.Moves.{move_spent, move_not_had, move_stop, move_entry, decoded_ends}
use Rattle.read_dir.proofs.ReadDir.advance.Goals as goal

pub returns-then-self-eq0 : goal.returns-then-self-eq0
returns-then-self-eq0 c = search move_spent

pub returns-then-not-has : goal.returns-then-not-has
returns-then-not-has c = search move_not_had

pub decode-requires : goal.decode-requires
decode-requires c =
    let l : c.args.self.block.0 < c.args.v.s.blocks = search has_below in
    search (linked_inside, fit_inside)

pub hop-requires : goal.hop-requires
hop-requires c = record { block_lt_blocks = search has_below; left_nonzero = search rules }

pub over-requires : goal.over-requires
over-requires c = search decoded_ends

pub returns-in-None : goal.returns-in-None
returns-in-None c = search move_stop

pub returns-in-Some : goal.returns-in-Some
returns-in-Some c = search move_entry
