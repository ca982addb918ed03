use mathlib.Core.Path.{refl}
use Rattle.super_block.proofs.Fits.{fit_inside, has_below}
use Rattle.create_store.proofs.Spots.{left_over, left_out, left_in, left_after, left_again}
use Rattle.create_store.proofs.spot_for.Goals as goal

pub returns-then-not-has : goal.returns-then-not-has
returns-then-not-has c = search left_out

pub used_bytes-used-requires : goal.used_bytes-used-requires
used_bytes-used-requires c = fit_inside c.args.v.s _ _ _ _ c.args.v.fit refl refl (has_below _ _ _ _ c.has.ensures c.if-not-has.false)

pub next_addr-next-requires : goal.next_addr-next-requires
next_addr-next-requires c = search has_below

pub returns-then-used-len : goal.returns-then-used-len
returns-then-used-len c = search left_in

pub returns-then-next-eq0 : goal.returns-then-next-eq0
returns-then-next-eq0 c = search left_after

pub loop-preserved : goal.loop-preserved
loop-preserved c = search left_again

pub returns : goal.returns
returns c = search left_over
