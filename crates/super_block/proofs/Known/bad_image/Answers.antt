use Rattle.super_block.proofs.Tests.{image_empty, image_odd, image_over, image_last}
use borrow.Author.Rules.{rules}
use Rattle.super_block.proofs.Known.bad_image.Goals as goal

pub returns-then-len-eq0 : goal.returns-then-len-eq0
returns-then-len-eq0 c = search (image_empty, rules)

pub returns-then-len-size-ne0 : goal.returns-then-len-size-ne0
returns-then-len-size-ne0 c = search (image_odd, rules)

pub returns-then-len-gt-MAX_IMAGE : goal.returns-then-len-gt-MAX_IMAGE
returns-then-len-gt-MAX_IMAGE c = search (image_over, rules)

pub returns : goal.returns
returns c = search (image_last, rules)
