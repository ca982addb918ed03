use Rattle.limits.proofs.Exits.{damage_is, gave_some, gave_none}
use Rattle.read_dir.proofs.Along.{entry_inside, entry_ends, passed_less, find_again, find_hit, find_none, find_bad}
use Rattle.read_dir.proofs.Passes.{over_others}
use borrow.Author.Rules.{rules}
use mathlib.Core.Path.{refl}
use Rattle.super_block.proofs.Fits.{area_inside}
use Rattle.dir_lookup.proofs.lookup.Goals as goal

pub new-c-requires : goal.new-c-requires
new-c-requires c = search area_inside

pub loop-x-init : goal.loop-x-init
loop-x-init c = refl

pub returns-in_err-next : goal.returns-in_err-next
returns-in_err-next c =
    let q = over_others _ _ c.args.name.now _ _ _ _ c.pass-c.ensures (λ o n p. search rules) in
    rw (damage_is c.from_residual.result c.from_residual.ensures.0) (search (find_bad, c.in_err-next.was))

pub returns-in-None : goal.returns-in-None
returns-in-None c =
    let q = over_others _ _ c.args.name.now _ _ _ _ c.pass-c.ensures (λ o n p. search rules) in
    search (find_none, gave_none, c.in_ok-next.was)

pub named-requires : goal.named-requires
named-requires c =
    record { size_in_bounds = search (entry_inside, gave_some, c.in_ok-next.was); len_bound = search (entry_ends, gave_some, c.in_ok-next.was) }

pub returns-then-named : goal.returns-then-named
returns-then-named c =
    let q = over_others _ _ c.args.name.now _ _ _ _ c.pass-c.ensures (λ o n p. search rules) in
    search (find_hit, gave_some, c.in_ok-next.was)

pub loop-x-smaller : goal.loop-x-smaller
loop-x-smaller c =
    let q = over_others _ _ c.args.name.now _ _ _ _ c.pass-c.ensures (λ o n p. search rules) in
    search (passed_less, c.in_ok-next.was)

pub loop-x-preserved : goal.loop-x-preserved
loop-x-preserved c =
    let q = over_others _ _ c.args.name.now _ _ _ _ c.pass-c.ensures (λ o n p. search rules) in
    search (find_again, gave_some, c.in_ok-next.was)
