use Rattle.std.proofs.Common.{◌≤◌, length, map}
use Rattle.schema_tree.specs.Trees.{parameter_of}
use Rattle.rnc_parser.proofs.Lists.{ParametersAt}
use Rattle.rnc_parser.proofs.datatypes.parameters.Given as goal

abbrev pub invariant-loop-alloc : goal.invariant-loop-alloc
invariant-loop-alloc l = ParametersAt l.fn.tokens l.tokens (map parameter_of l.found) × (length l.tokens ≤ length l.fn.tokens)

abbrev pub decreases-loop-alloc : goal.decreases-loop-alloc
decreases-loop-alloc l = length l.tokens
