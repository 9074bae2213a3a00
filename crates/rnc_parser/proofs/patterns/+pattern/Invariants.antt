use Rattle.std.proofs.Common.{◌+◌, ◌*◌, ◌≤◌, length, map}
use Rattle.rnc_lexer.specs.Views.{symbol_of}
use Rattle.schema_tree.specs.Trees.{pattern_of, item_of}
use Rattle.rnc_parser.proofs.Chains.{MembersAt, ItemsAt}
use Rattle.rnc_parser.proofs.patterns.+pattern.Given as goal

abbrev pub decreases-pattern : goal.decreases-pattern
decreases-pattern l = 16 * length l.tokens.now + 15

abbrev pub decreases-more_patterns : goal.decreases-more_patterns
decreases-more_patterns l = 16 * length l.tokens.now + 14

abbrev pub decreases-group : goal.decreases-group
decreases-group l = 16 * length l.tokens.now + 14

abbrev pub decreases-choice : goal.decreases-choice
decreases-choice l = 16 * length l.tokens.now + 14

abbrev pub decreases-interleave : goal.decreases-interleave
decreases-interleave l = 16 * length l.tokens.now + 14

abbrev pub decreases-members : goal.decreases-members
decreases-members l = 16 * length l.tokens.now + 13

abbrev pub decreases-particle : goal.decreases-particle
decreases-particle l = 16 * length l.tokens.now + 12

abbrev pub decreases-primary : goal.decreases-primary
decreases-primary l = 16 * length l.tokens.now + 11

abbrev pub decreases-bare : goal.decreases-bare
decreases-bare l = 16 * length l.tokens.now + 10

abbrev pub decreases-element : goal.decreases-element
decreases-element l = 16 * length l.tokens.now + 9

abbrev pub decreases-attribute : goal.decreases-attribute
decreases-attribute l = 16 * length l.tokens.now + 9

abbrev pub decreases-list : goal.decreases-list
decreases-list l = 16 * length l.tokens.now + 9

abbrev pub decreases-mixed : goal.decreases-mixed
decreases-mixed l = 16 * length l.tokens.now + 9

abbrev pub decreases-braced : goal.decreases-braced
decreases-braced l = 16 * length l.tokens.now + 8

abbrev pub decreases-datatype : goal.decreases-datatype
decreases-datatype l = 16 * length l.tokens.now + 9

abbrev pub decreases-typed : goal.decreases-typed
decreases-typed l = 16 * length l.tokens.now + 8

abbrev pub decreases-except : goal.decreases-except
decreases-except l = 16 * length l.tokens.now + 7

abbrev pub decreases-operand : goal.decreases-operand
decreases-operand l = 16 * length l.tokens.now + 6

abbrev pub decreases-grammar : goal.decreases-grammar
decreases-grammar l = 16 * length l.tokens.now + 9

abbrev pub decreases-parentheses : goal.decreases-parentheses
decreases-parentheses l = 16 * length l.tokens.now + 9

abbrev pub decreases-items : goal.decreases-items
decreases-items l = 16 * length l.tokens.now + 7

abbrev pub decreases-next_item : goal.decreases-next_item
decreases-next_item l = 16 * length l.tokens.now + 6

abbrev pub decreases-plain_item : goal.decreases-plain_item
decreases-plain_item l = 16 * length l.tokens.now + 5

abbrev pub decreases-annotated_item : goal.decreases-annotated_item
decreases-annotated_item l = 16 * length l.tokens.now + 5

abbrev pub decreases-named_item : goal.decreases-named_item
decreases-named_item l = 16 * length l.tokens.now + 5

abbrev pub decreases-item : goal.decreases-item
decreases-item l = 16 * length l.tokens.now + 4

abbrev pub decreases-start : goal.decreases-start
decreases-start l = 16 * length l.tokens.now + 3

abbrev pub decreases-define : goal.decreases-define
decreases-define l = 16 * length l.tokens.now + 3

abbrev pub decreases-div : goal.decreases-div
decreases-div l = 16 * length l.tokens.now + 3

abbrev pub decreases-include : goal.decreases-include
decreases-include l = 16 * length l.tokens.now + 3

abbrev pub decreases-inner_items : goal.decreases-inner_items
decreases-inner_items l = 16 * length l.tokens.now + 2

abbrev pub invariant-members-loop-found : goal.invariant-members-loop-found
invariant-members-loop-found l = (length l.tokens ≤ length l.fn.tokens) × MembersAt (symbol_of l.fn.sign) (pattern_of l.fn.first) l.fn.tokens l.tokens (map pattern_of l.found)

abbrev pub decreases-members-loop-found : goal.decreases-members-loop-found
decreases-members-loop-found l = length l.tokens

abbrev pub invariant-items-loop-alloc : goal.invariant-items-loop-alloc
invariant-items-loop-alloc l = ItemsAt l.fn.inner (map item_of l.fn.before) l.fn.tokens l.tokens (map item_of l.found) × (length l.tokens ≤ length l.fn.tokens)

abbrev pub decreases-items-loop-alloc : goal.decreases-items-loop-alloc
decreases-items-loop-alloc l = length l.tokens
