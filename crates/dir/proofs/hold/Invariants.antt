use mathlib.Core.Path.{◌≡◌}
use lib.ListN.{length}
use Rattle.std.specs.Prelude.{option_copied}
use Rattle.super_block.specs.Super.{area_in}
use Rattle.path.specs.Post.{pieces}
use Rattle.dir.specs.Hold.{hold_from, hold_dir}
use Rattle.dir.specs.Post.{hold_of}
use Rattle.dir.proofs.HoldLaws.{Room, bytes_left}
use Rattle.dir.proofs.hold.Given as goal

abbrev pub invariant-loop-rest : goal.invariant-loop-rest
invariant-loop-rest l = record {
  way : hold_from (area_in l.v.s) l.v.img.now (pieces (option_copied l.rest)) (hold_of l.h) ≡ hold_dir (area_in l.v.s) l.v.img.now l.dir_path;
  room : Room (length l.dir_path) (option_copied l.rest) l.h.depth;
}

abbrev pub decreases-loop-rest : goal.decreases-loop-rest
decreases-loop-rest l = bytes_left (option_copied l.rest)
