use Rattle.path.proofs.Bytes.{joined_cwd, joined_long, joined_first, joined_second, joined_good}
use Rattle.path.proofs.joined.Goals as goal

pub returns-then-not-starts_slash : goal.returns-then-not-starts_slash
returns-then-not-starts_slash c =
    joined_cwd c.args.cwd.now c.args.path.now c.args.full.now c.requires c.starts_slash.result c.starts_slash.ensures c.if-not-starts_slash.true

pub returns-then-n-gt-PATH_LIMIT : goal.returns-then-n-gt-PATH_LIMIT
returns-then-n-gt-PATH_LIMIT c =
    joined_long c.args.cwd.now c.args.path.now c.args.full.now c.requires c.gap-gap.result.now c.gap-gap.ensures.value c.if-n-gt-PATH_LIMIT.true

pub returns-then-not-text : goal.returns-then-not-text
returns-then-not-text c =
    joined_first c.args.cwd.now c.args.path.now c.args.full.now c.requires c.gap-gap.result.now c.gap-gap.ensures.value
    c.text.result c.text.ensures c.if-not-text.true

pub returns-then-not-text-2 : goal.returns-then-not-text-2
returns-then-not-text-2 c =
    joined_second c.args.cwd.now c.args.path.now c.args.full.now c.requires c.gap-gap.result.now c.gap-gap.ensures.value
    c.text-2.result c.text-2.ensures c.if-not-text-2.true

pub returns : goal.returns
returns c =
    joined_good c.args.cwd.now c.args.path.now c.args.full.now c.requires c.gap-gap.result.now c.gap-gap.ensures.value c.join.new.full
    c.starts_slash.result c.text.result c.text-2.result c.starts_slash.ensures c.if-not-starts_slash.false c.if-n-gt-PATH_LIMIT.false
    c.text.ensures c.if-not-text.false c.text-2.ensures c.if-not-text-2.false c.join.ensures
