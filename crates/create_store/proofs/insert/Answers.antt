use mathlib.Core.Path.{refl}
use Rattle.create_store.proofs.Steps.{open_fit, open_room, open_inside, open_fits, enter_fit, enter_own, insert_image, insert_block}
use borrow.Author.Rules.{rules}
use Rattle.create_store.proofs.insert.Goals as goal

pub enter-a-requires : goal.enter-a-requires
enter-a-requires c =
    record { fit = search open_fit; room = search open_room; size_in_bounds = search open_inside; name_bound = search open_fits }

pub renew_sum-requires : goal.renew_sum-requires
renew_sum-requires c =
    let spot = c.args.spot in
    let pre = c.requires in
    let opens = c.open_place-p.ensures in
    let short = c.args.name.short in
    let stored = c.enter-a.ensures.0 in
    record {
      fit = enter_fit pre.fit spot _ pre.spot_in pre.room opens.0 opens.1 _ _ _ refl short stored;
      own_in = enter_own pre.fit spot _ pre.spot_in pre.room opens.0 opens.1 _ _ _ refl short stored c.args.own pre.own_in;
    }

pub returns : goal.returns
returns c = (search (insert_image, rules), search (insert_block, rules))
