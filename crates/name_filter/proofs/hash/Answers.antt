use borrow.Author.Rules.{rules}
use Rattle.name_filter.proofs.Bytes.{hash_again, hash_done}
use Rattle.name_filter.proofs.hash.Goals as goal

pub loop-b-preserved : goal.loop-b-preserved
loop-b-preserved c =
    let x = c.args.name.now in
    rw c.from.ensures (hash_again x c.loop-b.b-index c.loop-b.h c.loop-b.invariant c.loop-b-test.true)

pub returns : goal.returns
returns c = search (hash_done, rules)
