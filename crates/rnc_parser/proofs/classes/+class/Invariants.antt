use Rattle.std.proofs.Common.{◌+◌, ◌*◌, ◌<◌, length, map}
use Rattle.schema_tree.specs.Trees.{class_of}
use Rattle.rnc_parser.proofs.More.{ClassAt}
use Rattle.rnc_parser.proofs.classes.+class.Given as goal

abbrev pub decreases-class : goal.decreases-class
decreases-class l = 8 * length l.tokens.now + 5

abbrev pub decreases-simple : goal.decreases-simple
decreases-simple l = 8 * length l.tokens.now + 4

abbrev pub decreases-bare_class : goal.decreases-bare_class
decreases-bare_class l = 8 * length l.tokens.now + 3

abbrev pub decreases-class_in_parentheses : goal.decreases-class_in_parentheses
decreases-class_in_parentheses l = 8 * length l.tokens.now + 2

abbrev pub decreases-any_class : goal.decreases-any_class
decreases-any_class l = 8 * length l.tokens.now + 2

abbrev pub decreases-namespace_class : goal.decreases-namespace_class
decreases-namespace_class l = 8 * length l.tokens.now + 2

abbrev pub decreases-class_except : goal.decreases-class_except
decreases-class_except l = 8 * length l.tokens.now + 1

abbrev pub decreases-class_operand : goal.decreases-class_operand
decreases-class_operand l = 8 * length l.tokens.now

abbrev pub invariant-class-loop-found : goal.invariant-class-loop-found
invariant-class-loop-found l = (length l.tokens < length l.fn.tokens) × ClassAt l.fn.tokens l.tokens (map class_of l.found)

abbrev pub decreases-class-loop-found : goal.decreases-class-loop-found
decreases-class-loop-found l = length l.tokens
