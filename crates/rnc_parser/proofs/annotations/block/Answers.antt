use Rattle.std.proofs.Common.{arith, ap, length, refl}
use Rattle.rnc_parser.proofs.Steps.{begin, turn, passed_on, missing}
use Rattle.rnc_parser.proofs.Blocks.{block_begins, block_step_above, block_ends, block_fails, in_block_length}
use Rattle.rnc_parser.proofs.annotations.block.Goals as goal

pub in_block-requires-clause-fits : goal.in_block-requires-clause-fits
in_block-requires-clause-fits c = omega (arith, c.loop-depth.invariant.1, c.left-left.ensures.fits, ap length c.in_ok-symbol.ensures.2)

pub loop-depth-init : goal.loop-depth-init
loop-depth-init c = (block_begins c.in_ok-symbol.ensures, omega (arith, ap length c.in_ok-symbol.ensures.2), omega (arith, ap length c.in_ok-symbol.ensures.2))

pub loop-depth-preserved : goal.loop-depth-preserved
loop-depth-preserved c = (
  block_step_above c.loop-depth.depth c.in_ok-depth.depth (omega (arith, c.loop-depth-test.true)) c.loop-depth.invariant.0 c.in_ok-depth.ensures,
  omega (arith, in_block_length c.loop-depth.depth c.in_ok-depth.ensures, c.loop-depth.invariant.1),
  omega (arith, in_block_length c.loop-depth.depth c.in_ok-depth.ensures, c.loop-depth.invariant.2),
)

pub loop-depth-smaller : goal.loop-depth-smaller
loop-depth-smaller c = omega (arith, in_block_length c.loop-depth.depth c.in_ok-depth.ensures)

pub returns-clause-parsed : goal.returns-clause-parsed
returns-clause-parsed c = block_ends c.loop-depth.depth (omega (arith, c.loop-depth-test.false)) c.loop-depth.invariant.0

pub returns-clause-shorter : goal.returns-clause-shorter
returns-clause-shorter c = c.loop-depth.invariant.2

pub returns-in_err-symbol-clause-parsed : goal.returns-in_err-symbol-clause-parsed
returns-in_err-symbol-clause-parsed c = passed_on c.from_residual.result c.from_residual.ensures.1 (missing _ (turn begin refl) c.in_err-symbol.ensures)

pub returns-in_err-depth-clause-parsed : goal.returns-in_err-depth-clause-parsed
returns-in_err-depth-clause-parsed c =
    passed_on c.from_residual-in_err-depth.result c.from_residual-in_err-depth.ensures.1
    (block_fails _ c.loop-depth.depth (omega (arith, c.loop-depth-test.true)) c.loop-depth.invariant.0 c.in_err-depth.ensures)
