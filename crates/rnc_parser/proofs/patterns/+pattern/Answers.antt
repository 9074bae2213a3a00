use Rattle.std.proofs.Common.{true, false, [], ◌∷◌, ◌++◌, map, Some, Ok, refl, sym, ap, ◌∙◌, subst, arith, length}
use Rattle.token_laws.specs.Tokens as kw
use Rattle.token_laws.specs.Tokens.{symbol, keyword, ◌at◌}
use Rattle.grammar_laws.specs.Trees.{items_of}
use Rattle.grammar_laws.specs.Grammar.{ReadsBare, ReadsBareClass, ReadsClass, ReadsPattern, ReadsParticle, ReadsPrimary, ReadsItem, ReadsItems, ReadsInner, ReadsUri, ReadsParameters, ReadsBraces, ReadsInherit}
use Rattle.grammar_laws.specs.Grammar as by
use Rattle.rnc_parser.specs.Parts.{ReadsBraced, ReadsOpen, ReadsOperand, ReadsOneItem, ReadsNext, IsInnerItem}
use Rattle.schema_tree.specs.Trees.{pattern_of, item_of}
use Rattle.syntax_laws.specs.Expecting.{next, first, Stands, is_symbol, declaration_move, class_move, pattern_move, item_move, next_item_move}
use Rattle.syntax_laws.specs.Expecting as part
use Rattle.rnc_parser.specs.Reading.{Parsed, parsed, failed, no_memory}
use Rattle.rnc_parser.proofs.Steps as step
use Rattle.rnc_parser.proofs.Steps.{begin, turn, past, read, took, stuck, inside, missing, passed_on, instead, at_last, made, stands, uneaten}
use Rattle.rnc_parser.proofs.Shapes as shape
use Rattle.schema_tree.proofs.Folds as fold
use Rattle.grammar_laws.specs.Grammar.{ReadsLiteral}
use Rattle.syntax_laws.specs.declared.forms.ItemForm.{ItemForm}
use Rattle.rnc_parser.proofs.Chains as chain
use Rattle.rnc_parser.proofs.Chains.{moved}
use Rattle.rnc_lexer.specs.Views.{symbol_of}
use Rattle.rnc_parser.proofs.patterns.+pattern.Goals as goal

pub pattern-returns-in_err-first-clause-parsed : goal.pattern-returns-in_err-first-clause-parsed
pattern-returns-in_err-first-clause-parsed t c =
    passed_on c.from_residual.result c.from_residual.ensures.1 (inside (turn begin refl) c.in_err-first.ensures.parsed)

pub pattern-returns-clause-parsed : goal.pattern-returns-clause-parsed
pattern-returns-clause-parsed t c =
    at_last (read (turn begin refl) c.in_ok-first.ensures.parsed) (λ v r. r c.args.tokens.now (made c.in_ok-first.ensures.parsed)) c.more_patterns.ensures.parsed

pub more_patterns-returns-then-eat-clause-parsed : goal.more_patterns-returns-then-eat-clause-parsed
more_patterns-returns-then-eat-clause-parsed t c =
    moved refl (at_last (past begin c.if-eat.ensures.1 refl) (λ v r. shape.behind_connector c.if-eat.ensures r) c.group.ensures.parsed)

pub more_patterns-returns-then-eat-2-clause-parsed : goal.more_patterns-returns-then-eat-2-clause-parsed
more_patterns-returns-then-eat-2-clause-parsed t c =
    moved c.if-eat.ensures.0 (at_last (past begin c.if-eat-2.ensures.1 refl) (λ v r. shape.behind_connector c.if-eat-2.ensures r) c.choice.ensures.parsed)

pub more_patterns-returns-then-eat-3-clause-parsed : goal.more_patterns-returns-then-eat-3-clause-parsed
more_patterns-returns-then-eat-3-clause-parsed t c =
    moved (c.if-eat-2.ensures.0 ∙ c.if-eat.ensures.0) (at_last (past begin c.if-eat-3.ensures.1 refl) (λ v r. shape.behind_connector c.if-eat-3.ensures r) c.interleave.ensures.parsed)

pub more_patterns-returns-clause-parsed : goal.more_patterns-returns-clause-parsed
more_patterns-returns-clause-parsed t c =
    chain.one_particle pattern_of c.if-eat.ensures c.if-eat-2.ensures c.if-eat-3.ensures

pub group-returns-in_err-all-clause-parsed : goal.group-returns-in_err-all-clause-parsed
group-returns-in_err-all-clause-parsed t c =
    passed_on c.from_residual.result c.from_residual.ensures.1 (inside begin c.in_err-all.ensures.parsed)

pub group-returns-clause-parsed : goal.group-returns-clause-parsed
group-returns-clause-parsed t c =
    parsed
    (shape.chain_read by.IsConnector.group (made c.in_ok-all.ensures.parsed) (fold.pattern_group c.in_ok-all.all))
    (read begin c.in_ok-all.ensures.parsed)

pub choice-returns-in_err-all-clause-parsed : goal.choice-returns-in_err-all-clause-parsed
choice-returns-in_err-all-clause-parsed t c =
    passed_on c.from_residual.result c.from_residual.ensures.1 (inside begin c.in_err-all.ensures.parsed)

pub choice-returns-clause-parsed : goal.choice-returns-clause-parsed
choice-returns-clause-parsed t c =
    parsed
    (shape.chain_read by.IsConnector.choice (made c.in_ok-all.ensures.parsed) (fold.pattern_choice c.in_ok-all.all))
    (read begin c.in_ok-all.ensures.parsed)

pub interleave-returns-in_err-all-clause-parsed : goal.interleave-returns-in_err-all-clause-parsed
interleave-returns-in_err-all-clause-parsed t c =
    passed_on c.from_residual.result c.from_residual.ensures.1 (inside begin c.in_err-all.ensures.parsed)

pub interleave-returns-clause-parsed : goal.interleave-returns-clause-parsed
interleave-returns-clause-parsed t c =
    parsed
    (shape.chain_read by.IsConnector.interleave (made c.in_ok-all.ensures.parsed) (fold.pattern_interleave c.in_ok-all.all))
    (read begin c.in_ok-all.ensures.parsed)

pub members-returns-in_err-push-clause-parsed : goal.members-returns-in_err-push-clause-parsed
members-returns-in_err-push-clause-parsed t c =
    passed_on c.from_residual.result c.from_residual.ensures.1 no_memory

pub members-loop-found-init : goal.members-loop-found-init
members-loop-found-init t c =
    (omega arith, subst (λ z. chain.MembersAt (symbol_of c.args.sign) (pattern_of c.args.first) c.args.tokens.now c.args.tokens.now (map pattern_of z)) (sym (c.in_ok-push.ensures.ok ∙ ap (λ z. z ++ c.args.first ∷ []) c.new-found.ensures)) (chain.members_begin (symbol_of c.args.sign) (pattern_of c.args.first) c.args.tokens.now))

pub members-returns-in_err-next-clause-parsed : goal.members-returns-in_err-next-clause-parsed
members-returns-in_err-next-clause-parsed t c =
    passed_on c.from_residual-in_err-next.result c.from_residual-in_err-next.ensures.1 (inside (turn c.loop-found.invariant.1.3 refl) c.in_err-next.ensures.parsed)

pub members-returns-in_err-push-2-clause-parsed : goal.members-returns-in_err-push-2-clause-parsed
members-returns-in_err-push-2-clause-parsed t c =
    passed_on c.from_residual-in_err-push-2.result c.from_residual-in_err-push-2.ensures.1 no_memory

pub members-returns-then-not-eat-clause-parsed : goal.members-returns-then-not-eat-clause-parsed
members-returns-then-not-eat-clause-parsed t c =
    chain.members_end pattern_of (map pattern_of) (symbol_of c.args.sign) (pattern_of c.args.first) (map pattern_of c.loop-found.found) c.loop-found.invariant.1 c.in_ok-next.ensures.parsed c.if-not-eat.ensures (ap (map pattern_of) c.in_ok-push-2.ensures.ok ∙ fold.map_push pattern_of c.loop-found.found c.in_ok-next.next)

pub members-loop-found-preserved : goal.members-loop-found-preserved
members-loop-found-preserved t c = (
  omega (arith, ap length c.if-not-eat.ensures.1, c.in_ok-next.ensures.shorter, c.loop-found.invariant.0),
  subst (chain.MembersAt (symbol_of c.args.sign) (pattern_of c.args.first) c.args.tokens.now c.eat.new.self) (sym (ap (map pattern_of) c.in_ok-push-2.ensures.ok ∙ fold.map_push pattern_of c.loop-found.found c.in_ok-next.next))
      (chain.members_go_on pattern_of (symbol_of c.args.sign) (pattern_of c.args.first) (map pattern_of c.loop-found.found) c.loop-found.invariant.1 c.in_ok-next.ensures.parsed c.if-not-eat.ensures),
)

pub particle-returns-in_err-found-clause-parsed : goal.particle-returns-in_err-found-clause-parsed
particle-returns-in_err-found-clause-parsed t c =
    passed_on c.from_residual.result c.from_residual.ensures.1 (inside (turn begin refl) c.in_err-found.ensures.parsed)

pub particle-returns-clause-parsed : goal.particle-returns-clause-parsed
particle-returns-clause-parsed t c =
    at_last (read (turn begin refl) c.in_ok-found.ensures.parsed) (λ v r. r c.args.tokens.now (made c.in_ok-found.ensures.parsed)) c.postfix.ensures.parsed

pub primary-returns-in_err-blocks-clause-parsed : goal.primary-returns-in_err-blocks-clause-parsed
primary-returns-in_err-blocks-clause-parsed t c =
    passed_on c.from_residual.result c.from_residual.ensures.1 (inside (turn begin refl) c.in_err-blocks.ensures.parsed)

pub primary-returns-in_err-found-clause-parsed : goal.primary-returns-in_err-found-clause-parsed
primary-returns-in_err-found-clause-parsed t c =
    passed_on c.from_residual-in_err-found.result c.from_residual-in_err-found.ensures.1 (inside (read (turn begin refl) c.in_ok-blocks.ensures.parsed) c.in_err-found.ensures.parsed)

pub primary-returns-in_err-follow-clause-parsed : goal.primary-returns-in_err-follow-clause-parsed
primary-returns-in_err-follow-clause-parsed t c =
    passed_on c.from_residual-in_err-follow.result c.from_residual-in_err-follow.ensures.1 (inside (read (read (turn begin refl) c.in_ok-blocks.ensures.parsed) c.in_ok-found.ensures.parsed) c.in_err-follow.ensures.parsed)

pub primary-returns-clause-parsed : goal.primary-returns-clause-parsed
primary-returns-clause-parsed t c =
    parsed
    (shape.primary_read (made c.in_ok-blocks.ensures.parsed) (made c.in_ok-found.ensures.parsed) (made c.in_ok-follow.ensures.parsed))
    (read (read (read (turn begin refl) c.in_ok-blocks.ensures.parsed) c.in_ok-found.ensures.parsed) c.in_ok-follow.ensures.parsed)

pub bare-returns-in-Element-clause-parsed : goal.bare-returns-in-Element-clause-parsed
bare-returns-in-Element-clause-parsed t c =
    instead (ap (pattern_move c.args.may_except) (sym c.in-Element.ensures)) (λ v r. shape.open_bare c.args.may_except r) c.element.ensures.parsed

pub bare-returns-in-Attribute-clause-parsed : goal.bare-returns-in-Attribute-clause-parsed
bare-returns-in-Attribute-clause-parsed t c =
    instead (ap (pattern_move c.args.may_except) (sym c.in-Attribute.ensures)) (λ v r. shape.open_bare c.args.may_except r) c.attribute.ensures.parsed

pub bare-returns-in-List-clause-parsed : goal.bare-returns-in-List-clause-parsed
bare-returns-in-List-clause-parsed t c =
    instead (ap (pattern_move c.args.may_except) (sym c.in-List.ensures)) (λ v r. shape.open_bare c.args.may_except r) c.list.ensures.parsed

pub bare-returns-in-Mixed-clause-parsed : goal.bare-returns-in-Mixed-clause-parsed
bare-returns-in-Mixed-clause-parsed t c =
    instead (ap (pattern_move c.args.may_except) (sym c.in-Mixed.ensures)) (λ v r. shape.open_bare c.args.may_except r) c.mixed.ensures.parsed

pub bare-returns-in-Reference-clause-parsed : goal.bare-returns-in-Reference-clause-parsed
bare-returns-in-Reference-clause-parsed t c =
    instead (ap (pattern_move c.args.may_except) (sym c.in-Reference.ensures)) (λ v r. shape.open_bare c.args.may_except r) c.reference.ensures.parsed

pub bare-returns-in-Parent-clause-parsed : goal.bare-returns-in-Parent-clause-parsed
bare-returns-in-Parent-clause-parsed t c =
    instead (ap (pattern_move c.args.may_except) (sym c.in-Parent.ensures)) (λ v r. shape.open_bare c.args.may_except r) c.parent.ensures.parsed

pub bare-returns-in-Empty-clause-parsed : goal.bare-returns-in-Empty-clause-parsed
bare-returns-in-Empty-clause-parsed t c =
    instead (ap (pattern_move c.args.may_except) (sym c.in-Empty.ensures)) (λ v r. shape.open_bare c.args.may_except r) c.empty.ensures.parsed

pub bare-returns-in-Text-clause-parsed : goal.bare-returns-in-Text-clause-parsed
bare-returns-in-Text-clause-parsed t c =
    instead (ap (pattern_move c.args.may_except) (sym c.in-Text.ensures)) (λ v r. shape.open_bare c.args.may_except r) c.text.ensures.parsed

pub bare-returns-in-NotAllowed-clause-parsed : goal.bare-returns-in-NotAllowed-clause-parsed
bare-returns-in-NotAllowed-clause-parsed t c =
    instead (ap (pattern_move c.args.may_except) (sym c.in-NotAllowed.ensures)) (λ v r. shape.open_bare c.args.may_except r) c.not_allowed.ensures.parsed

pub bare-returns-in-Literal-clause-parsed : goal.bare-returns-in-Literal-clause-parsed
bare-returns-in-Literal-clause-parsed t c =
    instead (ap (pattern_move c.args.may_except) (sym c.in-Literal.ensures)) (λ v r. shape.open_bare c.args.may_except r) c.value.ensures.parsed

pub bare-returns-in-Typed-clause-parsed : goal.bare-returns-in-Typed-clause-parsed
bare-returns-in-Typed-clause-parsed t c =
    instead (ap (pattern_move c.args.may_except) (sym c.in-Typed.ensures)) (λ v r. r) c.datatype.ensures.parsed

pub bare-returns-in-External-clause-parsed : goal.bare-returns-in-External-clause-parsed
bare-returns-in-External-clause-parsed t c =
    instead (ap (pattern_move c.args.may_except) (sym c.in-External.ensures)) (λ v r. shape.open_bare c.args.may_except r) c.external.ensures.parsed

pub bare-returns-in-Grammar-clause-parsed : goal.bare-returns-in-Grammar-clause-parsed
bare-returns-in-Grammar-clause-parsed t c =
    instead (ap (pattern_move c.args.may_except) (sym c.in-Grammar.ensures)) (λ v r. shape.open_bare c.args.may_except r) c.grammar.ensures.parsed

pub bare-returns-in-Parentheses-clause-parsed : goal.bare-returns-in-Parentheses-clause-parsed
bare-returns-in-Parentheses-clause-parsed t c =
    instead (ap (pattern_move c.args.may_except) (sym c.in-Parentheses.ensures)) (λ v r. shape.open_bare c.args.may_except r) c.parentheses.ensures.parsed

pub bare-returns-in-Other-clause-parsed : goal.bare-returns-in-Other-clause-parsed
bare-returns-in-Other-clause-parsed t c =
    failed (stuck begin (ap (pattern_move c.args.may_except) (sym c.in-Other.ensures)))

pub element-returns-in_err-at-clause-parsed : goal.element-returns-in_err-at-clause-parsed
element-returns-in_err-at-clause-parsed t c =
    passed_on c.from_residual.result c.from_residual.ensures.1 (missing _ begin c.in_err-at.ensures)

pub element-returns-in_err-class-clause-parsed : goal.element-returns-in_err-class-clause-parsed
element-returns-in_err-class-clause-parsed t c =
    passed_on c.from_residual-in_err-class.result c.from_residual-in_err-class.ensures.1 (inside (took begin c.in_ok-at.ensures) c.in_err-class.ensures.parsed)

pub element-returns-in_err-content-clause-parsed : goal.element-returns-in_err-content-clause-parsed
element-returns-in_err-content-clause-parsed t c =
    passed_on c.from_residual-in_err-content.result c.from_residual-in_err-content.ensures.1 (inside (read (took begin c.in_ok-at.ensures) c.in_ok-class.ensures.parsed) c.in_err-content.ensures.parsed)

pub element-returns-clause-parsed : goal.element-returns-clause-parsed
element-returns-clause-parsed t c =
    parsed
    (subst (ReadsBare c.args.tokens.now c.braced.new.tokens) (sym (fold.pattern_element c.in_ok-class.class c.in_ok-content.content c.in_ok-at.at)) (shape.element_read c.in_ok-at.ensures (made c.in_ok-class.ensures.parsed) (made c.in_ok-content.ensures.parsed)))
    (read (read (took begin c.in_ok-at.ensures) c.in_ok-class.ensures.parsed) c.in_ok-content.ensures.parsed)

pub attribute-returns-in_err-at-clause-parsed : goal.attribute-returns-in_err-at-clause-parsed
attribute-returns-in_err-at-clause-parsed t c =
    passed_on c.from_residual.result c.from_residual.ensures.1 (missing _ begin c.in_err-at.ensures)

pub attribute-returns-in_err-class-clause-parsed : goal.attribute-returns-in_err-class-clause-parsed
attribute-returns-in_err-class-clause-parsed t c =
    passed_on c.from_residual-in_err-class.result c.from_residual-in_err-class.ensures.1 (inside (took begin c.in_ok-at.ensures) c.in_err-class.ensures.parsed)

pub attribute-returns-in_err-content-clause-parsed : goal.attribute-returns-in_err-content-clause-parsed
attribute-returns-in_err-content-clause-parsed t c =
    passed_on c.from_residual-in_err-content.result c.from_residual-in_err-content.ensures.1 (inside (read (took begin c.in_ok-at.ensures) c.in_ok-class.ensures.parsed) c.in_err-content.ensures.parsed)

pub attribute-returns-clause-parsed : goal.attribute-returns-clause-parsed
attribute-returns-clause-parsed t c =
    parsed
    (subst (ReadsBare c.args.tokens.now c.braced.new.tokens) (sym (fold.pattern_attribute c.in_ok-class.class c.in_ok-content.content c.in_ok-at.at)) (shape.attribute_read c.in_ok-at.ensures (made c.in_ok-class.ensures.parsed) (made c.in_ok-content.ensures.parsed)))
    (read (read (took begin c.in_ok-at.ensures) c.in_ok-class.ensures.parsed) c.in_ok-content.ensures.parsed)

pub list-returns-in_err-at-clause-parsed : goal.list-returns-in_err-at-clause-parsed
list-returns-in_err-at-clause-parsed t c =
    passed_on c.from_residual.result c.from_residual.ensures.1 (missing _ begin c.in_err-at.ensures)

pub list-returns-in_err-content-clause-parsed : goal.list-returns-in_err-content-clause-parsed
list-returns-in_err-content-clause-parsed t c =
    passed_on c.from_residual-in_err-content.result c.from_residual-in_err-content.ensures.1 (inside (took begin c.in_ok-at.ensures) c.in_err-content.ensures.parsed)

pub list-returns-clause-parsed : goal.list-returns-clause-parsed
list-returns-clause-parsed t c =
    parsed
    (subst (ReadsBare c.args.tokens.now c.braced.new.tokens) (sym (fold.pattern_list c.in_ok-content.content c.in_ok-at.at)) (shape.list_read c.in_ok-at.ensures (made c.in_ok-content.ensures.parsed)))
    (read (took begin c.in_ok-at.ensures) c.in_ok-content.ensures.parsed)

pub mixed-returns-in_err-_at-clause-parsed : goal.mixed-returns-in_err-_at-clause-parsed
mixed-returns-in_err-_at-clause-parsed t c =
    passed_on c.from_residual.result c.from_residual.ensures.1 (missing _ begin c.in_err-_at.ensures)

pub mixed-returns-in_err-content-clause-parsed : goal.mixed-returns-in_err-content-clause-parsed
mixed-returns-in_err-content-clause-parsed t c =
    passed_on c.from_residual-in_err-content.result c.from_residual-in_err-content.ensures.1 (inside (took begin c.in_ok-_at.ensures) c.in_err-content.ensures.parsed)

pub mixed-returns-clause-parsed : goal.mixed-returns-clause-parsed
mixed-returns-clause-parsed t c =
    parsed
    (subst (ReadsBare c.args.tokens.now c.braced.new.tokens) (sym (fold.pattern_mixed c.in_ok-content.content)) (shape.mixed_read c.in_ok-_at.ensures (made c.in_ok-content.ensures.parsed)))
    (read (took begin c.in_ok-_at.ensures) c.in_ok-content.ensures.parsed)

pub braced-returns-in_err-_open-clause-parsed : goal.braced-returns-in_err-_open-clause-parsed
braced-returns-in_err-_open-clause-parsed t c =
    passed_on c.from_residual.result c.from_residual.ensures.1 (missing _ (turn begin refl) c.in_err-_open.ensures)

pub braced-returns-in_err-content-clause-parsed : goal.braced-returns-in_err-content-clause-parsed
braced-returns-in_err-content-clause-parsed t c =
    passed_on c.from_residual-in_err-content.result c.from_residual-in_err-content.ensures.1 (inside (took (turn begin refl) c.in_ok-_open.ensures) c.in_err-content.ensures.parsed)

pub braced-returns-in_err-content-2-clause-parsed : goal.braced-returns-in_err-content-2-clause-parsed
braced-returns-in_err-content-2-clause-parsed t c =
    passed_on c.from_residual-in_err-content-2.result c.from_residual-in_err-content-2.ensures.1 no_memory

pub braced-returns-in_err-_close-clause-parsed : goal.braced-returns-in_err-_close-clause-parsed
braced-returns-in_err-_close-clause-parsed t c =
    passed_on c.from_residual-in_err-_close.result c.from_residual-in_err-_close.ensures.1 (missing _ (read (took (turn begin refl) c.in_ok-_open.ensures) c.in_ok-content.ensures.parsed) c.in_err-_close.ensures)

pub braced-returns-clause-parsed : goal.braced-returns-clause-parsed
braced-returns-clause-parsed t c =
    parsed
    (subst (λ z. ReadsBraced c.args.tokens.now c.symbol-2.new.self (pattern_of z)) (sym c.in_ok-content-2.ensures) (shape.braced_read c.in_ok-_open.ensures (made c.in_ok-content.ensures.parsed) c.in_ok-_close.ensures))
    (took (read (took (turn begin refl) c.in_ok-_open.ensures) c.in_ok-content.ensures.parsed) c.in_ok-_close.ensures)

pub datatype-returns-in_err-of-clause-parsed : goal.datatype-returns-in_err-of-clause-parsed
datatype-returns-in_err-of-clause-parsed t c =
    passed_on c.from_residual.result c.from_residual.ensures.1 (missing _ begin c.in_err-of.ensures)

pub datatype-returns-clause-parsed : goal.datatype-returns-clause-parsed
datatype-returns-clause-parsed t c =
    at_last (took begin c.in_ok-of.ensures) (λ v r. subst (λ z. ReadsOpen c.args.may_except z c.typed.new.tokens (pattern_of v)) (sym c.in_ok-of.ensures.2) (r c.in_ok-of.ensures.0 c.in_ok-of.ensures.1 (shape.type_named c.in_ok-of.ensures.0 c.in_ok-of.ensures.1 c.in_ok-of.of c.in_ok-of.ensures.4))) c.typed.ensures.parsed

pub typed-returns-in_err-literal-clause-parsed : goal.typed-returns-in_err-literal-clause-parsed
typed-returns-in_err-literal-clause-parsed t c =
    passed_on c.from_residual.result c.from_residual.ensures.1 (inside (turn begin (ap (part.typed_move c.args.may_except) (sym c.if-is_segment.ensures))) c.in_err-literal.ensures.parsed)

pub typed-returns-then-is_segment-clause-parsed : goal.typed-returns-then-is_segment-clause-parsed
typed-returns-then-is_segment-clause-parsed t c =
    parsed
    (λ t a i. shape.open_bare c.args.may_except (subst (ReadsBare (t at a ∷ c.args.tokens.now) c.literal.new.tokens) (sym (fold.pattern_value (Some c.args.of) c.in_ok-literal.literal)) (by.value i (made c.in_ok-literal.ensures.parsed))))
    (read (turn begin (ap (part.typed_move c.args.may_except) (sym c.if-is_segment.ensures))) c.in_ok-literal.ensures.parsed)

pub typed-returns-in_err-parameters-clause-parsed : goal.typed-returns-in_err-parameters-clause-parsed
typed-returns-in_err-parameters-clause-parsed t c =
    passed_on c.from_residual-in_err-parameters.result c.from_residual-in_err-parameters.ensures.1 (inside (turn begin (ap (part.typed_move c.args.may_except) (sym c.if-is_segment.ensures))) c.in_err-parameters.ensures.parsed)

pub typed-returns-in_err-except-clause-parsed : goal.typed-returns-in_err-except-clause-parsed
typed-returns-in_err-except-clause-parsed t c =
    passed_on c.from_residual-in_err-except.result c.from_residual-in_err-except.ensures.1 (inside (read (turn begin (ap (part.typed_move c.args.may_except) (sym c.if-is_segment.ensures))) c.in_ok-parameters.ensures.parsed) c.in_err-except.ensures.parsed)

pub typed-returns-clause-parsed : goal.typed-returns-clause-parsed
typed-returns-clause-parsed t c =
    parsed
    (chain.typed_read c.args.may_except c.args.of c.in_ok-parameters.parameters c.in_ok-except.except c.except.new.tokens (made c.in_ok-parameters.ensures.parsed) (made c.in_ok-except.ensures.parsed))
    (read (read (turn begin (ap (part.typed_move c.args.may_except) (sym c.if-is_segment.ensures))) c.in_ok-parameters.ensures.parsed) c.in_ok-except.ensures.parsed)

pub except-returns-then-may_except-clause-parsed : goal.except-returns-then-may_except-clause-parsed
except-returns-then-may_except-clause-parsed t c =
    subst (λ z. Parsed (part.except z ∷ []) (ReadsOperand z) c.args.tokens.now c.operand.result c.operand.new.tokens) (sym c.if-may_except.true) c.operand.ensures.parsed

pub except-returns-clause-parsed : goal.except-returns-clause-parsed
except-returns-clause-parsed t c =
    chain.no_operand c.args.may_except c.if-may_except.false

pub operand-returns-then-not-eat-clause-parsed : goal.operand-returns-then-not-eat-clause-parsed
operand-returns-then-not-eat-clause-parsed t c =
    chain.no_minus true refl c.if-not-eat.ensures

pub operand-returns-in_err-blocks-clause-parsed : goal.operand-returns-in_err-blocks-clause-parsed
operand-returns-in_err-blocks-clause-parsed t c =
    passed_on c.from_residual.result c.from_residual.ensures.1 (inside (chain.behind_minus true refl c.if-not-eat.ensures) c.in_err-blocks.ensures.parsed)

pub operand-returns-in_err-operand-clause-parsed : goal.operand-returns-in_err-operand-clause-parsed
operand-returns-in_err-operand-clause-parsed t c =
    passed_on c.from_residual-in_err-operand.result c.from_residual-in_err-operand.ensures.1 (inside (read (chain.behind_minus true refl c.if-not-eat.ensures) c.in_ok-blocks.ensures.parsed) c.in_err-operand.ensures.parsed)

pub operand-returns-in_err-operand-2-clause-parsed : goal.operand-returns-in_err-operand-2-clause-parsed
operand-returns-in_err-operand-2-clause-parsed t c =
    passed_on c.from_residual-in_err-operand-2.result c.from_residual-in_err-operand-2.ensures.1 no_memory

pub operand-returns-clause-parsed : goal.operand-returns-clause-parsed
operand-returns-clause-parsed t c =
    parsed
    (chain.operand_read true refl c.if-not-eat.ensures (made c.in_ok-blocks.ensures.parsed) (made c.in_ok-operand.ensures.parsed) c.in_ok-operand-2.ensures)
    (read (read (chain.behind_minus true refl c.if-not-eat.ensures) c.in_ok-blocks.ensures.parsed) c.in_ok-operand.ensures.parsed)

pub grammar-returns-in_err-_at-clause-parsed : goal.grammar-returns-in_err-_at-clause-parsed
grammar-returns-in_err-_at-clause-parsed t c =
    passed_on c.from_residual.result c.from_residual.ensures.1 (missing _ begin c.in_err-_at.ensures)

pub grammar-returns-in_err-_open-clause-parsed : goal.grammar-returns-in_err-_open-clause-parsed
grammar-returns-in_err-_open-clause-parsed t c =
    passed_on c.from_residual-in_err-_open.result c.from_residual-in_err-_open.ensures.1 (missing _ (took begin c.in_ok-_at.ensures) c.in_err-_open.ensures)

pub grammar-returns-in_err-found-clause-parsed : goal.grammar-returns-in_err-found-clause-parsed
grammar-returns-in_err-found-clause-parsed t c =
    passed_on c.from_residual-in_err-found.result c.from_residual-in_err-found.ensures.1 (inside (took (took begin c.in_ok-_at.ensures) c.in_ok-_open.ensures) c.in_err-found.ensures.parsed)

pub grammar-returns-in_err-_close-clause-parsed : goal.grammar-returns-in_err-_close-clause-parsed
grammar-returns-in_err-_close-clause-parsed t c =
    passed_on c.from_residual-in_err-_close.result c.from_residual-in_err-_close.ensures.1 (missing _ (read (took (took begin c.in_ok-_at.ensures) c.in_ok-_open.ensures) c.in_ok-found.ensures.parsed) c.in_err-_close.ensures)

pub grammar-returns-clause-parsed : goal.grammar-returns-clause-parsed
grammar-returns-clause-parsed t c =
    parsed
    (subst (ReadsBare c.args.tokens.now c.symbol-2.new.self) (sym (fold.pattern_grammar c.in_ok-found.found)) (shape.grammar_read c.in_ok-_at.ensures c.in_ok-_open.ensures (chain.fresh_items false c.new.result c.new.ensures (made c.in_ok-found.ensures.parsed)).0 c.in_ok-_close.ensures))
    (took (read (took (took begin c.in_ok-_at.ensures) c.in_ok-_open.ensures) c.in_ok-found.ensures.parsed) c.in_ok-_close.ensures)

pub parentheses-returns-in_err-_open-clause-parsed : goal.parentheses-returns-in_err-_open-clause-parsed
parentheses-returns-in_err-_open-clause-parsed t c =
    passed_on c.from_residual.result c.from_residual.ensures.1 (missing _ begin c.in_err-_open.ensures)

pub parentheses-returns-in_err-found-clause-parsed : goal.parentheses-returns-in_err-found-clause-parsed
parentheses-returns-in_err-found-clause-parsed t c =
    passed_on c.from_residual-in_err-found.result c.from_residual-in_err-found.ensures.1 (inside (took begin c.in_ok-_open.ensures) c.in_err-found.ensures.parsed)

pub parentheses-returns-in_err-_close-clause-parsed : goal.parentheses-returns-in_err-_close-clause-parsed
parentheses-returns-in_err-_close-clause-parsed t c =
    passed_on c.from_residual-in_err-_close.result c.from_residual-in_err-_close.ensures.1 (missing _ (read (took begin c.in_ok-_open.ensures) c.in_ok-found.ensures.parsed) c.in_err-_close.ensures)

pub parentheses-returns-clause-parsed : goal.parentheses-returns-clause-parsed
parentheses-returns-clause-parsed t c =
    parsed
    (shape.parentheses_read c.in_ok-_open.ensures (made c.in_ok-found.ensures.parsed) c.in_ok-_close.ensures)
    (took (read (took begin c.in_ok-_open.ensures) c.in_ok-found.ensures.parsed) c.in_ok-_close.ensures)

pub next_item-returns-in-Annotated-clause-parsed : goal.next_item-returns-in-Annotated-clause-parsed
next_item-returns-in-Annotated-clause-parsed t c =
    instead (ap (next_item_move c.args.inner) (sym c.in-Annotated.ensures)) (λ v r. r) c.annotated_item.ensures.parsed

pub next_item-returns-in-Named-clause-parsed : goal.next_item-returns-in-Named-clause-parsed
next_item-returns-in-Named-clause-parsed t c =
    instead (ap (next_item_move c.args.inner) (sym c.in-Named.ensures)) (λ v r. chain.outside_too c.args.inner c.args.tokens.now c.named_item.new.tokens v r) c.named_item.ensures.parsed

pub next_item-returns-in-Prefixed-clause-parsed : goal.next_item-returns-in-Prefixed-clause-parsed
next_item-returns-in-Prefixed-clause-parsed t c =
    instead (ap (next_item_move c.args.inner) (sym c.in-Prefixed.ensures)) (λ v r. chain.outside_too c.args.inner c.args.tokens.now c.annotation.new.tokens v r) c.annotation.ensures.parsed

pub next_item-returns-in-Start-clause-parsed : goal.next_item-returns-in-Start-clause-parsed
next_item-returns-in-Start-clause-parsed t c =
    instead (ap (next_item_move c.args.inner) (sym c.in-Start.ensures)) (λ v r. r) c.plain_item.ensures.parsed

pub next_item-returns-in-Div-clause-parsed : goal.next_item-returns-in-Div-clause-parsed
next_item-returns-in-Div-clause-parsed t c =
    instead (ap (next_item_move c.args.inner) (sym c.in-Div.ensures)) (λ v r. r) c.plain_item-in-Div.ensures.parsed

pub next_item-returns-in-Include-clause-parsed : goal.next_item-returns-in-Include-clause-parsed
next_item-returns-in-Include-clause-parsed t c =
    instead (ap (next_item_move c.args.inner) (sym c.in-Include.ensures)) (λ v r. r) c.plain_item-in-Include.ensures.parsed

pub next_item-returns-in-End-clause-parsed : goal.next_item-returns-in-End-clause-parsed
next_item-returns-in-End-clause-parsed t c =
    instead (ap (next_item_move c.args.inner) (sym c.in-End.ensures)) (λ v r. r) c.plain_item-in-End.ensures.parsed

pub next_item-returns-in-Other-clause-parsed : goal.next_item-returns-in-Other-clause-parsed
next_item-returns-in-Other-clause-parsed t c =
    instead (ap (next_item_move c.args.inner) (sym c.in-Other.ensures)) (λ v r. r) c.plain_item-in-Other.ensures.parsed

pub plain_item-returns-in_err-found-clause-parsed : goal.plain_item-returns-in_err-found-clause-parsed
plain_item-returns-in_err-found-clause-parsed t c =
    passed_on c.from_residual.result c.from_residual.ensures.1 (inside begin c.in_err-found.ensures.parsed)

pub plain_item-returns-clause-parsed : goal.plain_item-returns-clause-parsed
plain_item-returns-clause-parsed t c =
    parsed
    (((c.args.tokens.now, by.ReadsBlocks.none, (made c.in_ok-found.ensures.parsed).0), (made c.in_ok-found.ensures.parsed).1))
    (read begin c.in_ok-found.ensures.parsed)

pub annotated_item-returns-in_err-blocks-clause-parsed : goal.annotated_item-returns-in_err-blocks-clause-parsed
annotated_item-returns-in_err-blocks-clause-parsed t c =
    passed_on c.from_residual.result c.from_residual.ensures.1 (inside begin c.in_err-blocks.ensures.parsed)

pub annotated_item-returns-in_err-found-clause-parsed : goal.annotated_item-returns-in_err-found-clause-parsed
annotated_item-returns-in_err-found-clause-parsed t c =
    passed_on c.from_residual-in_err-found.result c.from_residual-in_err-found.ensures.1 (inside (read begin c.in_ok-blocks.ensures.parsed) c.in_err-found.ensures.parsed)

pub annotated_item-returns-clause-parsed : goal.annotated_item-returns-clause-parsed
annotated_item-returns-clause-parsed t c =
    parsed
    (((_, made c.in_ok-blocks.ensures.parsed, (made c.in_ok-found.ensures.parsed).0), (made c.in_ok-found.ensures.parsed).1))
    (read (read begin c.in_ok-blocks.ensures.parsed) c.in_ok-found.ensures.parsed)

pub named_item-returns-in_err-name-clause-parsed : goal.named_item-returns-in_err-name-clause-parsed
named_item-returns-in_err-name-clause-parsed t c =
    passed_on c.from_residual.result c.from_residual.ensures.1 (missing _ (turn begin refl) c.in_err-name.ensures)

pub named_item-returns-in_err-block-clause-parsed : goal.named_item-returns-in_err-block-clause-parsed
named_item-returns-in_err-block-clause-parsed t c =
    passed_on c.from_residual-in_err-block.result c.from_residual-in_err-block.ensures.1 (inside (turn (took (turn begin refl) c.in_ok-name.ensures) (ap part.behind_name_move (sym (step.bracket_next c.if-is.ensures)))) c.in_err-block.ensures.parsed)

pub named_item-returns-then-is-clause-parsed : goal.named_item-returns-then-is-clause-parsed
named_item-returns-then-is-clause-parsed t c =
    parsed
    (shape.named_annotation_read c.in_ok-name.ensures (made c.in_ok-block.ensures.parsed))
    (read (turn (took (turn begin refl) c.in_ok-name.ensures) (ap part.behind_name_move (sym (step.bracket_next c.if-is.ensures)))) c.in_ok-block.ensures.parsed)

pub named_item-returns-in_err-method-clause-parsed : goal.named_item-returns-in_err-method-clause-parsed
named_item-returns-in_err-method-clause-parsed t c =
    passed_on c.from_residual-in_err-method.result c.from_residual-in_err-method.ensures.1 (missing _ (turn (took (turn begin refl) c.in_ok-name.ensures) (ap part.behind_name_move (step.no_symbol kw.open_bracket _ c.if-is.ensures))) c.in_err-method.ensures)

pub named_item-returns-in_err-pattern-clause-parsed : goal.named_item-returns-in_err-pattern-clause-parsed
named_item-returns-in_err-pattern-clause-parsed t c =
    passed_on c.from_residual-in_err-pattern.result c.from_residual-in_err-pattern.ensures.1 (inside (took (turn (took (turn begin refl) c.in_ok-name.ensures) (ap part.behind_name_move (step.no_symbol kw.open_bracket _ c.if-is.ensures))) c.in_ok-method.ensures) c.in_err-pattern.ensures.parsed)

pub named_item-returns-clause-parsed : goal.named_item-returns-clause-parsed
named_item-returns-clause-parsed t c =
    parsed
    (shape.named_define_read _ (fold.item_define c.in_ok-name.name c.in_ok-method.method c.in_ok-pattern.pattern c.in_ok-name.at) c.in_ok-name.ensures c.in_ok-method.ensures (made c.in_ok-pattern.ensures.parsed))
    (read (took (turn (took (turn begin refl) c.in_ok-name.ensures) (ap part.behind_name_move (step.no_symbol kw.open_bracket _ c.if-is.ensures))) c.in_ok-method.ensures) c.in_ok-pattern.ensures.parsed)

pub item-returns-in-Start-clause-parsed : goal.item-returns-in-Start-clause-parsed
item-returns-in-Start-clause-parsed t c =
    instead (ap (item_move c.args.inner) (sym c.in-Start.ensures)) (λ v r. (r.0, shape.inner_item c.args.inner (item_of v) r.1)) c.start.ensures.parsed

pub item-returns-in-Named-clause-parsed : goal.item-returns-in-Named-clause-parsed
item-returns-in-Named-clause-parsed t c =
    instead (ap (item_move c.args.inner) (sym c.in-Named.ensures)) (λ v r. (r.0, shape.inner_item c.args.inner (item_of v) r.1)) c.define.ensures.parsed

pub item-returns-in-Div-clause-parsed : goal.item-returns-in-Div-clause-parsed
item-returns-in-Div-clause-parsed t c =
    instead (ap (item_move c.args.inner) (sym c.in-Div.ensures)) (λ v r. r) c.div.ensures.parsed

pub item-returns-then-inner-clause-parsed : goal.item-returns-then-inner-clause-parsed
item-returns-then-inner-clause-parsed t c =
    failed (stuck begin (ap (item_move c.args.inner) (sym c.in-Include.ensures) ∙ ap (λ z. item_move z ItemForm.Include) c.if-inner.true))

pub item-returns-else-inner-clause-parsed : goal.item-returns-else-inner-clause-parsed
item-returns-else-inner-clause-parsed t c =
    instead (ap (item_move c.args.inner) (sym c.in-Include.ensures) ∙ ap (λ z. item_move z ItemForm.Include) c.if-inner.false) (λ v r. (r, subst (λ z. IsInnerItem z (item_of v)) (sym c.if-inner.false) tt)) c.include.ensures.parsed

pub item-returns-in-Annotated-clause-parsed : goal.item-returns-in-Annotated-clause-parsed
item-returns-in-Annotated-clause-parsed t c =
    failed (stuck begin (ap (item_move c.args.inner) (sym c.in-Annotated.ensures)))

pub item-returns-in-Prefixed-clause-parsed : goal.item-returns-in-Prefixed-clause-parsed
item-returns-in-Prefixed-clause-parsed t c =
    failed (stuck begin (ap (item_move c.args.inner) (sym c.in-Prefixed.ensures)))

pub item-returns-in-End-clause-parsed : goal.item-returns-in-End-clause-parsed
item-returns-in-End-clause-parsed t c =
    failed (stuck begin (ap (item_move c.args.inner) (sym c.in-End.ensures)))

pub item-returns-in-Other-clause-parsed : goal.item-returns-in-Other-clause-parsed
item-returns-in-Other-clause-parsed t c =
    failed (stuck begin (ap (item_move c.args.inner) (sym c.in-Other.ensures)))

pub start-returns-in_err-at-clause-parsed : goal.start-returns-in_err-at-clause-parsed
start-returns-in_err-at-clause-parsed t c =
    passed_on c.from_residual.result c.from_residual.ensures.1 (missing _ begin c.in_err-at.ensures)

pub start-returns-in_err-method-clause-parsed : goal.start-returns-in_err-method-clause-parsed
start-returns-in_err-method-clause-parsed t c =
    passed_on c.from_residual-in_err-method.result c.from_residual-in_err-method.ensures.1 (missing _ (took begin c.in_ok-at.ensures) c.in_err-method.ensures)

pub start-returns-in_err-pattern-clause-parsed : goal.start-returns-in_err-pattern-clause-parsed
start-returns-in_err-pattern-clause-parsed t c =
    passed_on c.from_residual-in_err-pattern.result c.from_residual-in_err-pattern.ensures.1 (inside (took (took begin c.in_ok-at.ensures) c.in_ok-method.ensures) c.in_err-pattern.ensures.parsed)

pub start-returns-clause-parsed : goal.start-returns-clause-parsed
start-returns-clause-parsed t c =
    parsed
    (shape.start_item_read (fold.item_start c.in_ok-method.method c.in_ok-pattern.pattern c.in_ok-at.at) c.in_ok-at.ensures c.in_ok-method.ensures (made c.in_ok-pattern.ensures.parsed))
    (read (took (took begin c.in_ok-at.ensures) c.in_ok-method.ensures) c.in_ok-pattern.ensures.parsed)

pub define-returns-in_err-name-clause-parsed : goal.define-returns-in_err-name-clause-parsed
define-returns-in_err-name-clause-parsed t c =
    passed_on c.from_residual.result c.from_residual.ensures.1 (missing _ begin c.in_err-name.ensures)

pub define-returns-in_err-method-clause-parsed : goal.define-returns-in_err-method-clause-parsed
define-returns-in_err-method-clause-parsed t c =
    passed_on c.from_residual-in_err-method.result c.from_residual-in_err-method.ensures.1 (missing _ (took begin c.in_ok-name.ensures) c.in_err-method.ensures)

pub define-returns-in_err-pattern-clause-parsed : goal.define-returns-in_err-pattern-clause-parsed
define-returns-in_err-pattern-clause-parsed t c =
    passed_on c.from_residual-in_err-pattern.result c.from_residual-in_err-pattern.ensures.1 (inside (took (took begin c.in_ok-name.ensures) c.in_ok-method.ensures) c.in_err-pattern.ensures.parsed)

pub define-returns-clause-parsed : goal.define-returns-clause-parsed
define-returns-clause-parsed t c =
    parsed
    (shape.define_item_read (fold.item_define c.in_ok-name.name c.in_ok-method.method c.in_ok-pattern.pattern c.in_ok-name.at) c.in_ok-name.ensures c.in_ok-method.ensures (made c.in_ok-pattern.ensures.parsed))
    (read (took (took begin c.in_ok-name.ensures) c.in_ok-method.ensures) c.in_ok-pattern.ensures.parsed)

pub div-returns-in_err-_at-clause-parsed : goal.div-returns-in_err-_at-clause-parsed
div-returns-in_err-_at-clause-parsed t c =
    passed_on c.from_residual.result c.from_residual.ensures.1 (missing _ begin c.in_err-_at.ensures)

pub div-returns-in_err-_open-clause-parsed : goal.div-returns-in_err-_open-clause-parsed
div-returns-in_err-_open-clause-parsed t c =
    passed_on c.from_residual-in_err-_open.result c.from_residual-in_err-_open.ensures.1 (missing _ (took begin c.in_ok-_at.ensures) c.in_err-_open.ensures)

pub div-returns-in_err-found-clause-parsed : goal.div-returns-in_err-found-clause-parsed
div-returns-in_err-found-clause-parsed t c =
    passed_on c.from_residual-in_err-found.result c.from_residual-in_err-found.ensures.1 (inside (took (took begin c.in_ok-_at.ensures) c.in_ok-_open.ensures) c.in_err-found.ensures.parsed)

pub div-returns-in_err-_close-clause-parsed : goal.div-returns-in_err-_close-clause-parsed
div-returns-in_err-_close-clause-parsed t c =
    passed_on c.from_residual-in_err-_close.result c.from_residual-in_err-_close.ensures.1 (missing _ (read (took (took begin c.in_ok-_at.ensures) c.in_ok-_open.ensures) c.in_ok-found.ensures.parsed) c.in_err-_close.ensures)

pub div-returns-clause-parsed : goal.div-returns-clause-parsed
div-returns-clause-parsed t c =
    parsed
    (subst (λ z. ReadsOneItem c.args.inner c.args.tokens.now c.symbol-2.new.self z) (sym (fold.item_div c.in_ok-found.found)) (shape.div_item_read c.args.inner c.in_ok-_at.ensures c.in_ok-_open.ensures (chain.fresh_items c.args.inner c.new.result c.new.ensures (made c.in_ok-found.ensures.parsed)) c.in_ok-_close.ensures))
    (took (read (took (took begin c.in_ok-_at.ensures) c.in_ok-_open.ensures) c.in_ok-found.ensures.parsed) c.in_ok-_close.ensures)

pub include-returns-in_err-at-clause-parsed : goal.include-returns-in_err-at-clause-parsed
include-returns-in_err-at-clause-parsed t c =
    passed_on c.from_residual.result c.from_residual.ensures.1 (missing _ begin c.in_err-at.ensures)

pub include-returns-in_err-literal-clause-parsed : goal.include-returns-in_err-literal-clause-parsed
include-returns-in_err-literal-clause-parsed t c =
    passed_on c.from_residual-in_err-literal.result c.from_residual-in_err-literal.ensures.1 (inside (took begin c.in_ok-at.ensures) c.in_err-literal.ensures.parsed)

pub include-returns-in_err-passed-clause-parsed : goal.include-returns-in_err-passed-clause-parsed
include-returns-in_err-passed-clause-parsed t c =
    passed_on c.from_residual-in_err-passed.result c.from_residual-in_err-passed.ensures.1 (inside (read (took begin c.in_ok-at.ensures) c.in_ok-literal.ensures.parsed) c.in_err-passed.ensures.parsed)

pub include-returns-in_err-inner-clause-parsed : goal.include-returns-in_err-inner-clause-parsed
include-returns-in_err-inner-clause-parsed t c =
    passed_on c.from_residual-in_err-inner.result c.from_residual-in_err-inner.ensures.1 (inside (read (read (took begin c.in_ok-at.ensures) c.in_ok-literal.ensures.parsed) c.in_ok-passed.ensures.parsed) c.in_err-inner.ensures.parsed)

pub include-returns-clause-parsed : goal.include-returns-clause-parsed
include-returns-clause-parsed t c =
    parsed
    (subst (ReadsItem c.args.tokens.now c.inner_items.new.tokens) (sym (fold.item_include c.in_ok-literal.literal c.in_ok-passed.passed c.in_ok-inner.inner c.in_ok-at.at)) (shape.include_read c.in_ok-at.ensures (made c.in_ok-literal.ensures.parsed) (made c.in_ok-passed.ensures.parsed) (made c.in_ok-inner.ensures.parsed)))
    (read (read (read (took begin c.in_ok-at.ensures) c.in_ok-literal.ensures.parsed) c.in_ok-passed.ensures.parsed) c.in_ok-inner.ensures.parsed)

pub inner_items-returns-then-not-eat-clause-parsed : goal.inner_items-returns-then-not-eat-clause-parsed
inner_items-returns-then-not-eat-clause-parsed t c =
    subst (λ z. Parsed (part.inner ∷ []) (λ ts us is. ReadsInner ts us (items_of (map item_of is))) c.args.tokens.now (Ok z) c.eat.new.self) (sym c.new-found.ensures)
    (parsed (shape.no_inner_read c.if-not-eat.ensures) (uneaten begin c.if-not-eat.ensures (λ e. ap part.inner_move (sym e))))

pub inner_items-returns-in_err-found-clause-parsed : goal.inner_items-returns-in_err-found-clause-parsed
inner_items-returns-in_err-found-clause-parsed t c =
    passed_on c.from_residual.result c.from_residual.ensures.1 (inside (past begin c.if-not-eat.ensures.1 refl) c.in_err-found.ensures.parsed)

pub inner_items-returns-in_err-_close-clause-parsed : goal.inner_items-returns-in_err-_close-clause-parsed
inner_items-returns-in_err-_close-clause-parsed t c =
    passed_on c.from_residual-in_err-_close.result c.from_residual-in_err-_close.ensures.1 (missing _ (read (past begin c.if-not-eat.ensures.1 refl) c.in_ok-found.ensures.parsed) c.in_err-_close.ensures)

pub inner_items-returns-clause-parsed : goal.inner_items-returns-clause-parsed
inner_items-returns-clause-parsed t c =
    parsed
    (shape.inner_items_read c.if-not-eat.ensures (chain.fresh_items true c.new-found.result c.new-found.ensures (made c.in_ok-found.ensures.parsed)) c.in_ok-_close.ensures)
    (took (read (past begin c.if-not-eat.ensures.1 refl) c.in_ok-found.ensures.parsed) c.in_ok-_close.ensures)

pub items-loop-alloc-init : goal.items-loop-alloc-init
items-loop-alloc-init t c =
    (chain.items_begin c.args.inner (map item_of c.args.before) c.args.tokens.now, omega arith)

pub items-returns-in_err-item-clause-parsed : goal.items-returns-in_err-item-clause-parsed
items-returns-in_err-item-clause-parsed t c =
    passed_on c.from_residual.result c.from_residual.ensures.1 (inside (chain.another_item c.args.inner c.loop-alloc.invariant.0.4 c.loop-alloc-test.ensures) c.in_err-item.ensures.parsed)

pub items-returns-in_err-push-clause-parsed : goal.items-returns-in_err-push-clause-parsed
items-returns-in_err-push-clause-parsed t c =
    passed_on c.from_residual-in_err-push.result c.from_residual-in_err-push.ensures.1 no_memory

pub items-loop-alloc-preserved-in-Continue-branch-3 : goal.items-loop-alloc-preserved-in-Continue-branch-3
items-loop-alloc-preserved-in-Continue-branch-3 t c = (
  subst (chain.ItemsAt c.args.inner (map item_of c.args.before) c.args.tokens.now c.next_item.new.tokens) (sym (ap (map item_of) c.in_ok-push.ensures.ok ∙ fold.map_push item_of c.loop-alloc.found c.in-Some.item))
      (chain.items_step c.args.inner (map item_of c.args.before) (map item_of c.loop-alloc.found) c.loop-alloc.invariant.0 c.loop-alloc-test.ensures (subst (λ z. Parsed (part.next_item c.args.inner ∷ []) (ReadsNext c.args.inner) c.loop-alloc.tokens (Ok z) c.next_item.new.tokens) c.in-Some.is c.in_ok-item.ensures.parsed)),
  omega (arith, c.loop-alloc.invariant.1, c.in_ok-item.ensures.shorter),
)

pub items-loop-alloc-preserved : goal.items-loop-alloc-preserved
items-loop-alloc-preserved t c = (
  chain.items_skip c.args.inner (map item_of c.args.before) (map item_of c.loop-alloc.found) c.loop-alloc.invariant.0 c.loop-alloc-test.ensures (subst (λ z. Parsed (part.next_item c.args.inner ∷ []) (ReadsNext c.args.inner) c.loop-alloc.tokens (Ok z) c.next_item.new.tokens) c.in_default.is c.in_ok-item.ensures.parsed),
  omega (arith, c.loop-alloc.invariant.1, c.in_ok-item.ensures.shorter),
)

pub items-returns-clause-parsed : goal.items-returns-clause-parsed
items-returns-clause-parsed t c =
    chain.items_end (map item_of) c.args.inner (map item_of c.args.before) c.loop-alloc.invariant.0 c.loop-alloc-test.ensures

pub items-returns-clause-shorter : goal.items-returns-clause-shorter
items-returns-clause-shorter t c =
    c.loop-alloc.invariant.1
