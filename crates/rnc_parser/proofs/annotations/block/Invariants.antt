use Rattle.std.proofs.Common.{◌+◌, ◌<◌, ◌≤◌, length}
use Rattle.rnc_parser.proofs.Blocks.{BlockAt}
use Rattle.rnc_parser.proofs.annotations.block.Given as goal

abbrev pub invariant-loop-depth : goal.invariant-loop-depth
invariant-loop-depth l = BlockAt l.depth l.fn.tokens l.tokens × (l.depth + length l.tokens ≤ length l.fn.tokens) × (length l.tokens < length l.fn.tokens)

abbrev pub decreases-loop-depth : goal.decreases-loop-depth
decreases-loop-depth l = length l.tokens
