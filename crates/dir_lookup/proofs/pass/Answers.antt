use mathlib.Core.Path.{refl}
use borrow.Author.Rules.{rules}
use Rattle.block.proofs.Blocks.{linked_inside}
use Rattle.super_block.proofs.Fits.{fit_inside, has_first, has_below}
use Rattle.read_dir.proofs.Passes.{behind_none, behind_more, over_not_had, over_stop, over_found, len_ends, len_fits, head_fits, len_less, len_in_block}
use Rattle.dir_lookup.proofs.pass.Goals as goal

pub returns-then-not-has : goal.returns-then-not-has
returns-then-not-has g c = search over_not_had

pub loop-c-init : goal.loop-c-init
loop-c-init g c = behind_none _ _ _ _

pub entry_len-n-requires : goal.entry_len-n-requires
entry_len-n-requires g c =
    linked_inside _ c.block.ensures.0 c.block.ensures.1
    (fit_inside c.args.v.s _ _ _ _ c.args.v.fit refl refl (has_below _ _ _ _ c.has.ensures c.if-not-has.false))

pub returns-then-n-eq0 : goal.returns-then-n-eq0
returns-then-n-eq0 g c = search (over_stop, len_in_block)

pub stops-requires : goal.stops-requires
stops-requires g c =
    let q = len_in_block c.args.v.img.now c.loop-c.o c.block.ensures.0 c.block.ensures.1 c.entry_len-n.ensures in
    search (c.requires, len_ends _ _ _ _ _ q c.if-n-eq0.false, has_first, has_below)

pub returns-then-stops : goal.returns-then-stops
returns-then-stops g c =
    let q = len_in_block c.args.v.img.now c.loop-c.o c.block.ensures.0 c.block.ensures.1 c.entry_len-n.ensures in
    over_found _ _ _ _ _ c.has.result c.has.ensures c.if-not-has.false _ _ _ c.at-then-stops.ensures c.loop-c.invariant q c.if-stops.ensures

pub overflow_add-o : goal.overflow_add-o
overflow_add-o g c = search (head_fits, rules)

pub overflow_add-o-in-loop-c : goal.overflow_add-o-in-loop-c
overflow_add-o-in-loop-c g c = search len_fits

pub loop-c-smaller : goal.loop-c-smaller
loop-c-smaller g c =
    len_less _ _ _ _ _ (len_in_block c.args.v.img.now c.loop-c.o c.block.ensures.0 c.block.ensures.1 c.entry_len-n.ensures) c.if-n-eq0.false

pub loop-c-preserved : goal.loop-c-preserved
loop-c-preserved g c =
    let q = len_in_block c.args.v.img.now c.loop-c.o c.block.ensures.0 c.block.ensures.1 c.entry_len-n.ensures in
    behind_more _ _ _ _ _ _ c.loop-c.invariant q c.if-n-eq0.false c.if-stops.ensures
