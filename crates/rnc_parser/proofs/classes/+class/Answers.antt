use Rattle.std.proofs.Common.{true, [], ◌∷◌, ◌++◌, map, refl, sym, ap, ◌∙◌, subst, arith, length}
use Rattle.grammar_laws.specs.Trees as tree
use Rattle.grammar_laws.specs.Trees.{patterns_of, items_of, classes_of}
use Rattle.rnc_parser.specs.Parts.{ReadsClassOperand}
use Rattle.schema_tree.specs.Trees.{class_of}
use Rattle.syntax_laws.specs.Expecting.{next, first, Stands, is_symbol, declaration_move, class_move, pattern_move, item_move, next_item_move}
use Rattle.syntax_laws.specs.Expecting as part
use Rattle.rnc_parser.specs.Reading.{Parsed, parsed, failed, no_memory}
use Rattle.rnc_parser.proofs.Steps.{begin, turn, read, took, stuck, inside, missing, passed_on, instead, made}
use Rattle.rnc_parser.proofs.Shapes as shape
use Rattle.schema_tree.proofs.Folds as fold
use Rattle.rnc_parser.proofs.More as more
use Rattle.rnc_parser.proofs.More.{no_class_operand, no_operand_sign, operand_sign, class_operand, any_class_read, namespace_class_read}
use Rattle.rnc_parser.proofs.classes.+class.Goals as goal

pub simple-returns-in_err-blocks-clause-parsed : goal.simple-returns-in_err-blocks-clause-parsed
simple-returns-in_err-blocks-clause-parsed t c =
    passed_on c.from_residual.result c.from_residual.ensures.1 (inside (turn begin refl) c.in_err-blocks.ensures.parsed)

pub simple-returns-in_err-found-clause-parsed : goal.simple-returns-in_err-found-clause-parsed
simple-returns-in_err-found-clause-parsed t c =
    passed_on c.from_residual-in_err-found.result c.from_residual-in_err-found.ensures.1 (inside (read (turn begin refl) c.in_ok-blocks.ensures.parsed) c.in_err-found.ensures.parsed)

pub simple-returns-in_err-follow-clause-parsed : goal.simple-returns-in_err-follow-clause-parsed
simple-returns-in_err-follow-clause-parsed t c =
    passed_on c.from_residual-in_err-follow.result c.from_residual-in_err-follow.ensures.1 (inside (read (read (turn begin refl) c.in_ok-blocks.ensures.parsed) c.in_ok-found.ensures.parsed) c.in_err-follow.ensures.parsed)

pub simple-returns-clause-parsed : goal.simple-returns-clause-parsed
simple-returns-clause-parsed t c =
    parsed
    (shape.simple_read (made c.in_ok-blocks.ensures.parsed) (made c.in_ok-found.ensures.parsed) (made c.in_ok-follow.ensures.parsed))
    (read (read (read (turn begin refl) c.in_ok-blocks.ensures.parsed) c.in_ok-found.ensures.parsed) c.in_ok-follow.ensures.parsed)

pub bare_class-returns-in-Plain-clause-parsed : goal.bare_class-returns-in-Plain-clause-parsed
bare_class-returns-in-Plain-clause-parsed t c =
    instead (ap (class_move c.args.may_except) (sym c.in-Plain.ensures)) (λ v r. shape.open_class c.args.may_except r) c.plain_class.ensures.parsed

pub bare_class-returns-in-Prefixed-clause-parsed : goal.bare_class-returns-in-Prefixed-clause-parsed
bare_class-returns-in-Prefixed-clause-parsed t c =
    instead (ap (class_move c.args.may_except) (sym c.in-Prefixed.ensures)) (λ v r. shape.open_class c.args.may_except r) c.prefixed_class.ensures.parsed

pub bare_class-returns-in-Parentheses-clause-parsed : goal.bare_class-returns-in-Parentheses-clause-parsed
bare_class-returns-in-Parentheses-clause-parsed t c =
    instead (ap (class_move c.args.may_except) (sym c.in-Parentheses.ensures)) (λ v r. shape.open_class c.args.may_except r) c.class_in_parentheses.ensures.parsed

pub bare_class-returns-in-Any-clause-parsed : goal.bare_class-returns-in-Any-clause-parsed
bare_class-returns-in-Any-clause-parsed t c =
    instead (ap (class_move c.args.may_except) (sym c.in-Any.ensures)) (λ v r. r) c.any_class.ensures.parsed

pub bare_class-returns-in-Namespace-clause-parsed : goal.bare_class-returns-in-Namespace-clause-parsed
bare_class-returns-in-Namespace-clause-parsed t c =
    instead (ap (class_move c.args.may_except) (sym c.in-Namespace.ensures)) (λ v r. r) c.namespace_class.ensures.parsed

pub bare_class-returns-in-Other-clause-parsed : goal.bare_class-returns-in-Other-clause-parsed
bare_class-returns-in-Other-clause-parsed t c =
    failed (stuck begin (ap (class_move c.args.may_except) (sym c.in-Other.ensures)))

pub class_in_parentheses-returns-in_err-_open-clause-parsed : goal.class_in_parentheses-returns-in_err-_open-clause-parsed
class_in_parentheses-returns-in_err-_open-clause-parsed t c =
    passed_on c.from_residual.result c.from_residual.ensures.1 (missing _ begin c.in_err-_open.ensures)

pub class_in_parentheses-returns-in_err-found-clause-parsed : goal.class_in_parentheses-returns-in_err-found-clause-parsed
class_in_parentheses-returns-in_err-found-clause-parsed t c =
    passed_on c.from_residual-in_err-found.result c.from_residual-in_err-found.ensures.1 (inside (took begin c.in_ok-_open.ensures) c.in_err-found.ensures.parsed)

pub class_in_parentheses-returns-in_err-_close-clause-parsed : goal.class_in_parentheses-returns-in_err-_close-clause-parsed
class_in_parentheses-returns-in_err-_close-clause-parsed t c =
    passed_on c.from_residual-in_err-_close.result c.from_residual-in_err-_close.ensures.1 (missing _ (read (took begin c.in_ok-_open.ensures) c.in_ok-found.ensures.parsed) c.in_err-_close.ensures)

pub class_in_parentheses-returns-clause-parsed : goal.class_in_parentheses-returns-clause-parsed
class_in_parentheses-returns-clause-parsed t c =
    parsed
    (shape.class_in_parentheses_read c.in_ok-_open.ensures (made c.in_ok-found.ensures.parsed) c.in_ok-_close.ensures)
    (took (read (took begin c.in_ok-_open.ensures) c.in_ok-found.ensures.parsed) c.in_ok-_close.ensures)

pub any_class-returns-in_err-at-clause-parsed : goal.any_class-returns-in_err-at-clause-parsed
any_class-returns-in_err-at-clause-parsed t c =
    passed_on c.from_residual.result c.from_residual.ensures.1 (missing _ begin c.in_err-at.ensures)

pub any_class-returns-in_err-except-clause-parsed : goal.any_class-returns-in_err-except-clause-parsed
any_class-returns-in_err-except-clause-parsed t c =
    passed_on c.from_residual-in_err-except.result c.from_residual-in_err-except.ensures.1 (inside (took begin c.in_ok-at.ensures) c.in_err-except.ensures.parsed)

pub any_class-returns-clause-parsed : goal.any_class-returns-clause-parsed
any_class-returns-clause-parsed t c =
    parsed
    (any_class_read c.args.may_except c.in_ok-except.except c.class_except.new.tokens c.in_ok-at.ensures (made c.in_ok-except.ensures.parsed))
    (read (took begin c.in_ok-at.ensures) c.in_ok-except.ensures.parsed)

pub namespace_class-returns-in_err-prefix-clause-parsed : goal.namespace_class-returns-in_err-prefix-clause-parsed
namespace_class-returns-in_err-prefix-clause-parsed t c =
    passed_on c.from_residual.result c.from_residual.ensures.1 (missing _ begin c.in_err-prefix.ensures)

pub namespace_class-returns-in_err-except-clause-parsed : goal.namespace_class-returns-in_err-except-clause-parsed
namespace_class-returns-in_err-except-clause-parsed t c =
    passed_on c.from_residual-in_err-except.result c.from_residual-in_err-except.ensures.1 (inside (took begin c.in_ok-prefix.ensures) c.in_err-except.ensures.parsed)

pub namespace_class-returns-clause-parsed : goal.namespace_class-returns-clause-parsed
namespace_class-returns-clause-parsed t c =
    parsed
    (namespace_class_read c.args.may_except c.in_ok-except.except c.class_except.new.tokens c.in_ok-prefix.ensures (made c.in_ok-except.ensures.parsed))
    (read (took begin c.in_ok-prefix.ensures) c.in_ok-except.ensures.parsed)

pub class_except-returns-then-may_except-clause-parsed : goal.class_except-returns-then-may_except-clause-parsed
class_except-returns-then-may_except-clause-parsed t c =
    subst (λ z. Parsed (part.class_except z ∷ []) (ReadsClassOperand z) c.args.tokens.now c.class_operand.result c.class_operand.new.tokens) (sym c.if-may_except.true) c.class_operand.ensures.parsed

pub class_except-returns-clause-parsed : goal.class_except-returns-clause-parsed
class_except-returns-clause-parsed t c =
    no_class_operand c.args.may_except c.if-may_except.false

pub class_operand-returns-then-not-eat-clause-parsed : goal.class_operand-returns-then-not-eat-clause-parsed
class_operand-returns-then-not-eat-clause-parsed t c =
    no_operand_sign true refl c.if-not-eat.ensures

pub class_operand-returns-in_err-blocks-clause-parsed : goal.class_operand-returns-in_err-blocks-clause-parsed
class_operand-returns-in_err-blocks-clause-parsed t c =
    passed_on c.from_residual.result c.from_residual.ensures.1 (inside (operand_sign true refl c.if-not-eat.ensures) c.in_err-blocks.ensures.parsed)

pub class_operand-returns-in_err-operand-clause-parsed : goal.class_operand-returns-in_err-operand-clause-parsed
class_operand-returns-in_err-operand-clause-parsed t c =
    passed_on c.from_residual-in_err-operand.result c.from_residual-in_err-operand.ensures.1 (inside (read (operand_sign true refl c.if-not-eat.ensures) c.in_ok-blocks.ensures.parsed) c.in_err-operand.ensures.parsed)

pub class_operand-returns-in_err-operand-2-clause-parsed : goal.class_operand-returns-in_err-operand-2-clause-parsed
class_operand-returns-in_err-operand-2-clause-parsed t c =
    passed_on c.from_residual-in_err-operand-2.result c.from_residual-in_err-operand-2.ensures.1 no_memory

pub class_operand-returns-clause-parsed : goal.class_operand-returns-clause-parsed
class_operand-returns-clause-parsed t c =
    parsed
    (class_operand true refl c.if-not-eat.ensures (made c.in_ok-blocks.ensures.parsed) (made c.in_ok-operand.ensures.parsed) c.in_ok-operand-2.ensures)
    (read (read (operand_sign true refl c.if-not-eat.ensures) c.in_ok-blocks.ensures.parsed) c.in_ok-operand.ensures.parsed)

pub class-returns-in_err-first-clause-parsed : goal.class-returns-in_err-first-clause-parsed
class-returns-in_err-first-clause-parsed t c =
    passed_on c.from_residual.result c.from_residual.ensures.1 (inside (turn begin refl) c.in_err-first.ensures.parsed)

pub class-returns-then-not-eat-clause-parsed : goal.class-returns-then-not-eat-clause-parsed
class-returns-then-not-eat-clause-parsed t c =
    more.single_class class_of c.in_ok-first.ensures.parsed c.if-not-eat.ensures

pub class-returns-in_err-push-clause-parsed : goal.class-returns-in_err-push-clause-parsed
class-returns-in_err-push-clause-parsed t c =
    passed_on c.from_residual-in_err-push.result c.from_residual-in_err-push.ensures.1 no_memory

pub class-loop-found-init : goal.class-loop-found-init
class-loop-found-init t c = (
  omega (arith, ap length c.if-not-eat.ensures.1, c.in_ok-first.ensures.shorter),
  subst (λ z. more.ClassAt c.args.tokens.now c.eat.new.self (map class_of z)) (sym (c.in_ok-push.ensures.ok ∙ ap (λ z. z ++ c.in_ok-first.first ∷ []) c.new-found.ensures))
      (more.class_begins class_of c.in_ok-first.ensures.parsed c.if-not-eat.ensures),
)

pub class-returns-in_err-next-clause-parsed : goal.class-returns-in_err-next-clause-parsed
class-returns-in_err-next-clause-parsed t c =
    passed_on c.from_residual-in_err-next.result c.from_residual-in_err-next.ensures.1 (inside (turn c.loop-found.invariant.1.1 refl) c.in_err-next.ensures.parsed)

pub class-returns-in_err-push-2-clause-parsed : goal.class-returns-in_err-push-2-clause-parsed
class-returns-in_err-push-2-clause-parsed t c =
    passed_on c.from_residual-in_err-push-2.result c.from_residual-in_err-push-2.ensures.1 no_memory

pub class-returns-then-not-eat-2-clause-parsed : goal.class-returns-then-not-eat-2-clause-parsed
class-returns-then-not-eat-2-clause-parsed t c =
    more.class_ends class_of (map class_of c.loop-found.found) c.loop-found.invariant.1 c.in_ok-next.ensures.parsed c.if-not-eat-2.ensures
    (fold.class_choice _ ∙ ap (λ z. tree.Class.choice_class (classes_of z)) (ap (map class_of) c.in_ok-push-2.ensures.ok ∙ fold.map_push class_of c.loop-found.found c.in_ok-next.next))

pub class-loop-found-preserved : goal.class-loop-found-preserved
class-loop-found-preserved t c = (
  omega (arith, ap length c.if-not-eat-2.ensures.1, c.in_ok-next.ensures.shorter, c.loop-found.invariant.0),
  subst (more.ClassAt c.args.tokens.now c.eat-in-loop-found.new.self) (sym (ap (map class_of) c.in_ok-push-2.ensures.ok ∙ fold.map_push class_of c.loop-found.found c.in_ok-next.next))
      (more.class_goes_on class_of (map class_of c.loop-found.found) c.loop-found.invariant.1 c.in_ok-next.ensures.parsed c.if-not-eat-2.ensures),
)
