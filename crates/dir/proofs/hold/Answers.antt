use mathlib.Core.Path.{◌∙◌}
use native.Mathlib.Omega.{arith}
use Rattle.super_block.specs.Super.{area_in}
use Rattle.dir.specs.Hold.{hold_from}
use Rattle.dir.specs.Post.{hold_of}
use Rattle.dir.proofs.Answers.{passed_on}
use Rattle.dir.proofs.HoldLaws.{room_start, room_some, room_on, fewer_left, way_on, way_done, piece_on, piece_refused, entered_deep}
use Rattle.dir.proofs.hold.Goals as goal

pub loop-rest-init : goal.loop-rest-init
loop-rest-init c = record {
  way = λ i. hold_from (area_in c.args.v.s) c.args.v.img.now (c.way-rest.ensures.value i) (c.root-h.ensures i);
  room = room_start c.way-rest.result _ _ _ c.root-h.ensures c.way-rest.ensures.within;
}

pub enter-requires : goal.enter-requires
enter-requires c = omega (arith, room_some c.loop-rest.rest c.in-Some.way c.in-Some.is _ _ c.loop-rest.invariant.room)

pub returns-in_err-h : goal.returns-in_err-h
returns-in_err-h c =
    let h = hold_of c.loop-rest.h in
    let w = way_on (area_in c.args.v.s) c.args.v.img.now h c.loop-rest.rest _ c.loop-rest.invariant.way c.in-Some.way c.in-Some.is in
    passed_on hold_of _ _ c.from_residual.ensures.1
    ∙ piece_refused (area_in c.args.v.s) c.args.v.img.now h c.in-Some.way.now _ _ _ c.first_piece.ensures.value w _ c.in_err-h.ensures

pub loop-rest-smaller : goal.loop-rest-smaller
loop-rest-smaller c = fewer_left c.loop-rest.rest c.in-Some.way c.in-Some.is c.first_piece.result.1 c.first_piece.ensures.shorter

pub loop-rest-preserved : goal.loop-rest-preserved
loop-rest-preserved c =
    let h = hold_of c.loop-rest.h in
    let w = way_on (area_in c.args.v.s) c.args.v.img.now h c.loop-rest.rest _ c.loop-rest.invariant.way c.in-Some.way c.in-Some.is in
    let deep = entered_deep (area_in c.args.v.s) c.args.v.img.now h c.first_piece.result.0.now (hold_of c.in_ok-h.h) c.in_ok-h.ensures in
    record {
      way = piece_on (area_in c.args.v.s) c.args.v.img.now h c.in-Some.way.now _ _ _ c.first_piece.ensures.value w _ c.in_ok-h.ensures;
      room = room_on c.loop-rest.rest c.in-Some.way c.in-Some.is c.first_piece.result.1 c.first_piece.ensures.shorter _ _ _
          c.loop-rest.invariant.room deep;
    }

pub returns : goal.returns
returns c =
    way_done (area_in c.args.v.s) c.args.v.img.now (hold_of c.loop-rest.h) c.loop-rest.rest _ c.loop-rest.invariant.way c.in_default.is
