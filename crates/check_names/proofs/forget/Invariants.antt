use Rattle.check_names.specs.Filter.{Only}
use Rattle.check_names.specs.Names.{names_in}
use Rattle.read_dir.specs.Cursor.{cursor_walk}
use Rattle.super_block.specs.Super.{area_in}
use Rattle.check_names.proofs.forget.Given as goal

abbrev pub invariant-loop : goal.invariant-loop
invariant-loop l = Only l.filter (names_in (cursor_walk (area_in l.v.s) l.v.img.now l.c))
