use Rattle.std.proofs.Common.{arith}
use Rattle.restrictions.proofs.Numbers.{least, none, none_more}
use Rattle.restrictions.proofs.rules.least_broken.Goals as goal

pub returns-then-branch : goal.returns-then-branch
returns-then-branch c =
    least c.args.schema.now.schema c.numbered-rule.result c.loop-number.number c.numbered-rule.ensures (c.in_ok-is_broken.ensures.yes c.if-branch.true)
    c.loop-number.invariant

pub loop-number-preserved : goal.loop-number-preserved
loop-number-preserved c =
    none_more c.args.schema.now.schema c.loop-number.number c.numbered-rule.result c.numbered-rule.ensures (c.in_ok-is_broken.ensures.no c.if-branch.false)
    c.loop-number.invariant

pub returns : goal.returns
returns c = none c.args.schema.now.schema c.loop-number.number (let f = c.loop-number-test.false in omega (arith, f)) c.loop-number.invariant
