use Rattle.std.proofs.Common.{[], ◌∷◌, Ok, refl, sym, ap, subst, arith, length}
use Rattle.syntax_laws.specs.Expecting.{next, first, Stands, is_symbol, declaration_move, class_move, pattern_move, item_move, next_item_move}
use Rattle.syntax_laws.specs.Expecting as part
use Rattle.rnc_parser.specs.Reading.{Parsed}
use Rattle.rnc_parser.proofs.Steps.{turn, missing, passed_on}
use Rattle.std.specs.Prelude.{string_bytes}
use Rattle.rnc_parser.proofs.Lists as list
use Rattle.grammar_laws.specs.Grammar.{ReadsLiteral}
use Rattle.rnc_parser.proofs.literals.literal.Goals as goal

pub loop-joined-init : goal.loop-joined-init
loop-joined-init c =
    (subst (λ z. list.LiteralAt c.args.tokens.now c.args.tokens.now z) (sym c.new-joined.ensures.bytes) list.literal_begins, omega arith)

pub returns-in_err-segment-clause-parsed : goal.returns-in_err-segment-clause-parsed
returns-in_err-segment-clause-parsed c =
    passed_on c.from_residual.result c.from_residual.ensures.1 (missing _ (turn c.loop-joined.invariant.0.1 refl) c.in_err-segment.ensures)

pub returns-then-not-eat-clause-parsed : goal.returns-then-not-eat-clause-parsed
returns-then-not-eat-clause-parsed c =
    subst (λ z. Parsed (part.literal ∷ []) ReadsLiteral c.args.tokens.now (Ok z) c.eat.new.self) (sym c.from_string.ensures)
    (list.literal_ends (string_bytes c.loop-joined.joined) (string_bytes c.segment.new.literal) c.loop-joined.invariant.0 c.in_ok-segment.ensures c.if-not-eat.ensures)

pub returns-then-not-eat-clause-shorter : goal.returns-then-not-eat-clause-shorter
returns-then-not-eat-clause-shorter c =
    omega (arith, c.loop-joined.invariant.1, ap length c.in_ok-segment.ensures.2, ap length c.if-not-eat.ensures.0)

pub loop-joined-preserved : goal.loop-joined-preserved
loop-joined-preserved c = (
  list.literal_step (string_bytes c.loop-joined.joined) (string_bytes c.segment.new.literal) c.loop-joined.invariant.0 c.in_ok-segment.ensures c.if-not-eat.ensures,
  omega (arith, c.loop-joined.invariant.1, ap length c.in_ok-segment.ensures.2, ap length c.if-not-eat.ensures.1),
)

pub loop-joined-smaller : goal.loop-joined-smaller
loop-joined-smaller c =
    omega (arith, ap length c.in_ok-segment.ensures.2, ap length c.if-not-eat.ensures.1)
