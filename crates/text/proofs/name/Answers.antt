use mathlib.Core.Path.{ap, ◌∙◌}
use mathlib.Core.Bool.{not}
use borrow.Author.Rules.{rules}
use Rattle.text.proofs.Along.{name_plain, name_slash, name_walked}
use Rattle.text.proofs.Rest.{has_rest, text_rest}
use Rattle.text.proofs.name.Goals as goal

pub returns-then-n-s : goal.returns-then-n-s
returns-then-n-s c = search (name_plain, rules)

pub returns-then-not-contains : goal.returns-then-not-contains
returns-then-not-contains c = search (name_walked, has_rest, text_rest)

pub returns-else-not-contains : goal.returns-else-not-contains
returns-else-not-contains c = ap not c.if-not-contains.false ∙ search (name_slash, has_rest)
