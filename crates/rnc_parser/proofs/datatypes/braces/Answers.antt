use Rattle.std.proofs.Common.{[], ◌∷◌, map, Ok, refl, sym, ap, subst}
use Rattle.grammar_laws.specs.Grammar.{ReadsBraces}
use Rattle.schema_tree.specs.Trees.{parameter_of}
use Rattle.syntax_laws.specs.Expecting.{next, first, Stands, is_symbol, declaration_move, class_move, pattern_move, item_move, next_item_move}
use Rattle.syntax_laws.specs.Expecting as part
use Rattle.rnc_parser.specs.Reading.{Parsed, parsed}
use Rattle.rnc_parser.proofs.Steps.{begin, past, read, took, inside, missing, passed_on, made, uneaten}
use Rattle.rnc_parser.proofs.Shapes as shape
use Rattle.rnc_parser.proofs.datatypes.braces.Goals as goal

pub returns-then-not-eat-clause-parsed : goal.returns-then-not-eat-clause-parsed
returns-then-not-eat-clause-parsed c =
    subst (λ z. Parsed (part.braces ∷ []) (λ ts us ps. ReadsBraces ts us (map parameter_of ps)) c.args.tokens.now (Ok z) c.eat.new.self) (sym c.new.ensures)
    (parsed (shape.no_braces c.if-not-eat.ensures) (uneaten begin c.if-not-eat.ensures (λ e. ap part.braces_move (sym e))))

pub returns-in_err-found-clause-parsed : goal.returns-in_err-found-clause-parsed
returns-in_err-found-clause-parsed c =
    passed_on c.from_residual.result c.from_residual.ensures.1 (inside (past begin c.if-not-eat.ensures.1 refl) c.in_err-found.ensures.parsed)

pub returns-in_err-_close-clause-parsed : goal.returns-in_err-_close-clause-parsed
returns-in_err-_close-clause-parsed c =
    passed_on c.from_residual-in_err-_close.result c.from_residual-in_err-_close.ensures.1 (missing _ (read (past begin c.if-not-eat.ensures.1 refl) c.in_ok-found.ensures.parsed) c.in_err-_close.ensures)

pub returns-clause-parsed : goal.returns-clause-parsed
returns-clause-parsed c =
    parsed
    (shape.braces_read c.if-not-eat.ensures (made c.in_ok-found.ensures.parsed) c.in_ok-_close.ensures)
    (took (read (past begin c.if-not-eat.ensures.1 refl) c.in_ok-found.ensures.parsed) c.in_ok-_close.ensures)
