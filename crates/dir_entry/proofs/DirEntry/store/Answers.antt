use Rattle.dir_entry.proofs.Heads.{head_stored}
use lib.ListN.{length-set}
use native.Mathlib.Omega.{arith}
use mathlib.Core.Path.{refl}
use Rattle.dir_entry.proofs.DirEntry.store.Goals as goal

pub put-requires : goal.put-requires
put-requires c = simp length-set (omega arith)

pub put-requires-2 : goal.put-requires-2
put-requires-2 c = omega (arith, length-set c.args.img.now c.args.at c.from.result)

pub put-requires-3 : goal.put-requires-3
put-requires-3 c = omega (arith, length-set c.args.img.now c.args.at c.from.result)

pub bounds-img-at-2 : goal.bounds-img-at-2
bounds-img-at-2 c = omega (arith, length-set c.args.img.now c.args.at c.from.result)

pub shape_of-img : goal.shape_of-img
shape_of-img c = simp length-set (omega (arith, length-set c.args.img.now c.args.at c.from.result))

pub returns : goal.returns
returns c =
    let a = c.args in
    head_stored a.img.now _ _ _ _ a.at _ a.self c.requires c.from.ensures refl c.put.ensures c.put-2.ensures c.put-3.ensures
