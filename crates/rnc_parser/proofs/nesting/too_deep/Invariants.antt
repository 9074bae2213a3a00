use Rattle.std.proofs.Common.{map, length}
use Rattle.rnc_lexer.specs.Views.{placed_of}
use Rattle.rnc_parser.proofs.Levels.{Walked}
use Rattle.rnc_parser.proofs.nesting.too_deep.Given as goal

abbrev pub invariant-loop-first : goal.invariant-loop-first
invariant-loop-first l = Walked l.fn.tokens.tokens l.counts (map placed_of l.rest)

abbrev pub decreases-loop-first : goal.decreases-loop-first
decreases-loop-first l = length l.rest
