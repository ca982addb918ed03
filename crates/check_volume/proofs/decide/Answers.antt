use borrow.Author.Rules.{rules}
use Rattle.check_volume.proofs.Decides.{not_rest, not_tree, not_agreed, answer_count}
use Rattle.check_volume.proofs.decide.Goals as goal

pub returns-then-not-rest_clear-clause-value : goal.returns-then-not-rest_clear-clause-value
returns-then-not-rest_clear-clause-value c = search (not_rest, rules)

pub returns-then-not-tree-clause-value : goal.returns-then-not-tree-clause-value
returns-then-not-tree-clause-value c = search not_tree

pub returns-then-agrees-clause-value : goal.returns-then-agrees-clause-value
returns-then-agrees-clause-value c =
    answer_count _ _ c.requires.fit _ c.rest_clear.ensures c.if-not-rest_clear.false _ _ _ c.requires.marks c.tree.ensures c.if-not-tree.false (λ i. (c.type_inv.img i).fits) (λ i. (c.slice_known-2-1.given i).fits) c.requires.s_in_bounds _ c.agrees.ensures c.if-agrees.true _ c.count_right.ensures

pub returns-else-agrees-clause-value : goal.returns-else-agrees-clause-value
returns-else-agrees-clause-value c =
    not_agreed _ _ c.requires.fit _ c.rest_clear.ensures c.if-not-rest_clear.false _ _ _ c.requires.marks c.tree.ensures c.if-not-tree.false (λ i. (c.type_inv.img i).fits) (λ i. (c.slice_known-2-1.given i).fits) c.requires.s_in_bounds _ c.agrees.ensures c.if-agrees.false
