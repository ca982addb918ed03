use borrow.Author.Rules.{rules}
use Rattle.reached.proofs.Steps.{over_files, step_dir}
use Rattle.reached.proofs.next_dir.Goals as goal

pub returns : goal.returns
returns c =
    let q = over_files _ _ _ _ _ _ c.pass.ensures (λ o n p. search rules) in
    search step_dir
