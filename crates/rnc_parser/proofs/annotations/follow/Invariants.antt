use Rattle.std.proofs.Common.{◌≤◌, length}
use Rattle.rnc_parser.proofs.Blocks.{FollowAt}
use Rattle.rnc_parser.proofs.annotations.follow.Given as goal

abbrev pub invariant-loop-tokens : goal.invariant-loop-tokens
invariant-loop-tokens l = FollowAt l.fn.tokens l.tokens × (length l.tokens ≤ length l.fn.tokens)

abbrev pub decreases-loop-tokens : goal.decreases-loop-tokens
decreases-loop-tokens l = length l.tokens
