use Rattle.std.proofs.Common.{◌≤◌, length}
use Rattle.std.specs.Prelude.{string_bytes}
use Rattle.rnc_parser.proofs.Lists.{LiteralAt}
use Rattle.rnc_parser.proofs.literals.literal.Given as goal

abbrev pub invariant-loop-joined : goal.invariant-loop-joined
invariant-loop-joined l = LiteralAt l.fn.tokens l.tokens (string_bytes l.joined) × (length l.tokens ≤ length l.fn.tokens)

abbrev pub decreases-loop-joined : goal.decreases-loop-joined
decreases-loop-joined l = length l.tokens
