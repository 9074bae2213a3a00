use Rattle.std.proofs.Common.{arith}
use Rattle.rnc_parser.proofs.Steps.{passed_on, inside}
use Rattle.rnc_parser.proofs.Blocks.{blocks_begin, another_block, blocks_step, blocks_end}
use Rattle.rnc_parser.proofs.annotations.blocks.Goals as goal

pub loop-tokens-init : goal.loop-tokens-init
loop-tokens-init c = (blocks_begin, omega arith)

pub loop-tokens-preserved : goal.loop-tokens-preserved
loop-tokens-preserved c = (
  blocks_step c.loop-tokens.invariant.0 c.loop-tokens-test.ensures c.in_ok-block.ensures.parsed,
  omega (arith, c.loop-tokens.invariant.1, c.in_ok-block.ensures.shorter),
)

pub loop-tokens-smaller : goal.loop-tokens-smaller
loop-tokens-smaller c = c.in_ok-block.ensures.shorter

pub returns-in_err-block-clause-parsed : goal.returns-in_err-block-clause-parsed
returns-in_err-block-clause-parsed c =
    passed_on c.from_residual.result c.from_residual.ensures.1 (inside (another_block c.loop-tokens.invariant.0 c.loop-tokens-test.ensures) c.in_err-block.ensures.parsed)

pub returns-clause-parsed : goal.returns-clause-parsed
returns-clause-parsed c = blocks_end c.loop-tokens.invariant.0 c.loop-tokens-test.ensures

pub returns-clause-shorter : goal.returns-clause-shorter
returns-clause-shorter c = c.loop-tokens.invariant.1
