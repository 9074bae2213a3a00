use Rattle.std.proofs.Common.{sym, arith, map, subst}
use Rattle.rnc_lexer.specs.Views.{placed_of}
use Rattle.rnc_parser.proofs.Levels.{Walked, start, walk_on, walk_fits}
use Rattle.rnc_parser.proofs.nesting.too_deep.Goals as goal

pub loop-first-init : goal.loop-first-init
loop-first-init c = subst (λ ts. Walked ts c.new-counts.result (map placed_of c.as_slice-rest.result.now)) c.as_slice-rest.ensures.tokens (start c.new-counts.ensures)

pub loop-first-preserved : goal.loop-first-preserved
loop-first-preserved c = walk_on c.in-Some.first.now c.loop-first.invariant c.in-Some.ensures.cases.0 (sym c.if-is_too_deep.ensures) c.behind-counts.ensures

pub behind-counts-requires-clause-blocks_opened : goal.behind-counts-requires-clause-blocks_opened
behind-counts-requires-clause-blocks_opened c = let h = walk_fits c.in-Some.first.now c.loop-first.invariant c.in-Some.ensures.cases.0 in omega (arith, h.0, c.len-length.ensures, c.len-length.type_inv)

pub behind-counts-requires-clause-blocks_closed : goal.behind-counts-requires-clause-blocks_closed
behind-counts-requires-clause-blocks_closed c = let h = walk_fits c.in-Some.first.now c.loop-first.invariant c.in-Some.ensures.cases.0 in omega (arith, h.1, c.len-length.ensures, c.len-length.type_inv)

pub behind-counts-requires-clause-opened : goal.behind-counts-requires-clause-opened
behind-counts-requires-clause-opened c = let h = walk_fits c.in-Some.first.now c.loop-first.invariant c.in-Some.ensures.cases.0 in omega (arith, h.2, c.len-length.ensures, c.len-length.type_inv)

pub behind-counts-requires-clause-closed : goal.behind-counts-requires-clause-closed
behind-counts-requires-clause-closed c = let h = walk_fits c.in-Some.first.now c.loop-first.invariant c.in-Some.ensures.cases.0 in omega (arith, h.3, c.len-length.ensures, c.len-length.type_inv)
