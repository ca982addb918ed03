use mathlib.Core.Path.{refl}
use Rattle.own_entry.proofs.Renewals.{renewed_in}
use Rattle.write_store.proofs.Loops.{write_resizable, write_first, resized_along, write_is}
use Rattle.write_store.proofs.write.Goals as goal

pub put_bytes-requires-clause-size_bound : goal.put_bytes-requires-clause-size_bound
put_bytes-requires-clause-size_bound c =
    write_first c.args.s _ c.requires.fit _ _ _ _ c.requires.can_write _ _ refl c.blocks_for-new.ensures

pub put_bytes-requires-clause-along : goal.put_bytes-requires-clause-along
put_bytes-requires-clause-along c =
    let f = c.requires.fit in
    let r = write_resizable c.args.s _ f _ _ _ _ c.requires.can_write _ _ refl c.blocks_for-new.ensures _ c.blocks_for-old.ensures in
    resized_along _ _ f _ _ _ r _ c.resize.ensures

pub returns : goal.returns
returns c =
    let o = c.blocks_for-old.ensures in
    let n = c.blocks_for-new.ensures in
    let r = c.resize in
    let p = c.put_bytes in
    write_is c.args.s _ _ _ _ _ _ _ _ _ _ _ _ c.requires.fit refl o n r.ensures p.ensures
    (renewed_in _ _ _ _ _ _ _ _ c.new.ensures.0 c.new.ensures.1 c.renew_at.ensures)
