use Rattle.delete_store.proofs.Answers.{fit_twice, own_still, removed_in}
use borrow.Author.Rules.{rules}
use Rattle.delete_store.proofs.remove.Goals as goal

pub renew_sum-requires : goal.renew_sum-requires
renew_sum-requires c =
    let out = c.take_out.new in
    let freed = c.free_all.new in
    record { fit = search (fit_twice, rules); own_in = own_still _ c.args.img.now out.img freed.img c.args.own c.requires.own_in (search rules) (search rules) }

pub returns : goal.returns
returns c = search (removed_in, rules)
