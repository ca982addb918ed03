use Rattle.check_names.proofs.Parts.{Tested}
use Rattle.check_names.specs.Names.{names_in, ends}
use Rattle.read_dir.specs.Walk.{walk}
use Rattle.super_block.specs.Super.{area_in}
use Prim.Native.Nat.{◌<◌}
use Rattle.check_names.proofs.distinct.Given as goal

abbrev pub invariant-loop-k : goal.invariant-loop-k
invariant-loop-k l = (0 < l.m) × Tested (ends (walk (area_in l.v.s) l.v.img.now l.dir.0)) (names_in (walk (area_in l.v.s) l.v.img.now l.dir.0)) l.m l.k
