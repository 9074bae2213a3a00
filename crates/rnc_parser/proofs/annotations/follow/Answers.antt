use Rattle.std.proofs.Common.{arith, ap, length}
use Rattle.rnc_parser.proofs.Steps.{passed_on, inside, missing, took}
use Rattle.rnc_parser.proofs.Blocks.{follow_begins, another_follow, follow_step, follow_ends}
use Rattle.rnc_parser.proofs.annotations.follow.Goals as goal

pub loop-tokens-init : goal.loop-tokens-init
loop-tokens-init c = (follow_begins, omega arith)

pub loop-tokens-preserved : goal.loop-tokens-preserved
loop-tokens-preserved c = (
  follow_step c.loop-tokens.invariant.0 c.loop-tokens-test.ensures c.in_ok-annotation_name.ensures c.in_ok-block.ensures.parsed,
  omega (arith, c.loop-tokens.invariant.1, c.in_ok-block.ensures.shorter, ap length c.in_ok-annotation_name.ensures.2, ap length c.loop-tokens-test.ensures.1),
)

pub loop-tokens-smaller : goal.loop-tokens-smaller
loop-tokens-smaller c = omega (arith, c.in_ok-block.ensures.shorter, ap length c.in_ok-annotation_name.ensures.2, ap length c.loop-tokens-test.ensures.1)

pub returns-in_err-annotation_name-clause-parsed : goal.returns-in_err-annotation_name-clause-parsed
returns-in_err-annotation_name-clause-parsed c =
    passed_on c.from_residual.result c.from_residual.ensures.1 (missing _ (another_follow c.loop-tokens.invariant.0 c.loop-tokens-test.ensures) c.in_err-annotation_name.ensures)

pub returns-in_err-block-clause-parsed : goal.returns-in_err-block-clause-parsed
returns-in_err-block-clause-parsed c =
    passed_on c.from_residual-in_err-block.result c.from_residual-in_err-block.ensures.1
    (inside (took (another_follow c.loop-tokens.invariant.0 c.loop-tokens-test.ensures) c.in_ok-annotation_name.ensures) c.in_err-block.ensures.parsed)

pub returns-clause-parsed : goal.returns-clause-parsed
returns-clause-parsed c = follow_ends c.loop-tokens.invariant.0 c.loop-tokens-test.ensures

pub returns-clause-shorter : goal.returns-clause-shorter
returns-clause-shorter c = omega (arith, c.loop-tokens.invariant.1, ap length c.loop-tokens-test.ensures.0)
