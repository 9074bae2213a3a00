-- Each row of the reader's table is sound: what stands for a part is that part, whatever token is next.
use Rattle.std.proofs.Common.{Bool, true, false, [], Option, Some, None, refl}
use Rattle.std.specs.Prelude.{if◌then◌else◌}
use Rattle.token_laws.specs.Tokens.{Keyword, Symbol, Token, keyword, ident, cname, ns_name, segment, symbol, open_brace, close_bracket, open_bracket, equals, bar_equals, ampersand_equals, comma, ampersand, bar, question, star, plus, minus, tilde, follows}
use Rattle.token_laws.specs.Tokens as kw
use Rattle.grammar_laws.specs.Grammar as by
use Rattle.syntax_laws.specs.Expecting.{Part, Move, pass, refuse, next, is_assign, is_symbol, filling_move, name_move, plain_name_move, prefixed_name_move, namespace_name_move, annotation_name_move, segment_move, type_move, end_move}
use Rattle.syntax_laws.specs.Expecting.{more_literal_move, blocks_move, follow_move, uri_move, default_prefix_move, declaration_move, declarations_move, more_classes_move, class_move, class_except_move, parameters_move, braces_move, passed_move, more_patterns_move, more_members_move, postfix_move, pattern_move, typed_move, except_move, item_move, behind_name_move, next_item_move, items_move, inner_move, body_move, named_body_move, typed_body_move, annotated_move, annotated_name_move}
use Rattle.syntax_laws.specs.Expecting as part
use Rattle.syntax_laws.specs.declared.forms.PatternForm.{PatternForm}
use Rattle.syntax_laws.specs.declared.forms.ClassForm.{ClassForm}
use Rattle.syntax_laws.specs.declared.forms.ItemForm.{ItemForm}
use Rattle.syntax_laws.specs.declared.forms.DeclarationForm.{DeclarationForm}
use Rattle.syntax_laws.proofs.SoundMeanings.{IsSound}
use Rattle.syntax_laws.proofs.SoundTokens.{by_symbol, by_keyword}
use Rattle.syntax_laws.proofs.SoundParts as parts

-- parts of one token
sign_row : (s : Symbol) (o : Option Token) → IsSound (part.sign s) (next (part.sign s) o) o
sign_row s o = by_symbol s (part.sign s) (λ b. if b then pass [] else refuse) o (λ a ts us m. parts.sign_passed m) tt

word_row : (k : Keyword) (o : Option Token) → IsSound (part.word k) (next (part.word k) o) o
word_row k o = by_keyword k (part.word k) (λ b. if b then pass [] else refuse) o (λ a ts us m. parts.word_passed m) tt

name_row : (o : Option Token) → IsSound part.name (name_move o) o
name_row (Some (keyword k)) = λ a ts us m. parts.name_passed _ refl m
name_row (Some (ident n)) = λ a ts us m. parts.name_passed _ refl m
name_row _ = tt

plain_name_row : (o : Option Token) → IsSound part.plain_name (plain_name_move o) o
plain_name_row (Some (ident n)) = λ a ts us m. parts.plain_name_passed m
plain_name_row _ = tt

prefixed_name_row : (o : Option Token) → IsSound part.prefixed_name (prefixed_name_move o) o
prefixed_name_row (Some (cname p n)) = λ a ts us m. parts.prefixed_name_passed m
prefixed_name_row _ = tt

namespace_name_row : (o : Option Token) → IsSound part.namespace_name (namespace_name_move o) o
namespace_name_row (Some (ns_name p)) = λ a ts us m. parts.namespace_name_passed m
namespace_name_row _ = tt

annotation_name_row : (o : Option Token) → IsSound part.annotation_name (annotation_name_move o) o
annotation_name_row (Some (keyword k)) = λ a ts us m. parts.annotation_name_passed tt m
annotation_name_row (Some (ident n)) = λ a ts us m. parts.annotation_name_passed tt m
annotation_name_row (Some (cname p n)) = λ a ts us m. parts.annotation_name_passed tt m
annotation_name_row _ = tt

segment_row : (o : Option Token) → IsSound part.one_segment (segment_move o) o
segment_row (Some (segment s)) = λ a ts us m. parts.segment_passed m
segment_row _ = tt

type_row : (o : Option Token) → IsSound part.type_name (type_move o) o
type_row (Some (cname p n)) = λ a ts us m. parts.type_passed by.IsType.prefixed m
type_row (Some (keyword kw.string)) = λ a ts us m. parts.type_passed by.IsType.string m
type_row (Some (keyword kw.token)) = λ a ts us m. parts.type_passed by.IsType.token m
type_row _ = tt

assign_row : (o : Option Token) → IsSound part.assign (if is_assign o then pass [] else refuse) o
assign_row (Some (symbol equals)) = λ a ts us m. parts.assign_passed by.IsAssign.plain m
assign_row (Some (symbol bar_equals)) = λ a ts us m. parts.assign_passed by.IsAssign.choice m
assign_row (Some (symbol ampersand_equals)) = λ a ts us m. parts.assign_passed by.IsAssign.interleave m
assign_row _ = tt

end_row : (o : Option Token) → IsSound part.end (end_move o) o
end_row None = λ ts us m. parts.nothing_read m
end_row _ = tt

filling_row : (o : Option Token) → IsSound part.filling (filling_move o) o
filling_row None = tt
filling_row (Some (symbol close_bracket)) = λ a ts us m. parts.filling_closed m
filling_row (Some (symbol open_bracket)) = λ a ts us m. parts.filling_nested m
filling_row _ = λ a ts us m. parts.filling_passed tt m

-- parts that look for a sign
more_literal_row : (o : Option Token) → IsSound part.more_literal (next part.more_literal o) o
more_literal_row o = by_symbol tilde part.more_literal more_literal_move o (λ a ts us m. parts.literal_joined m) (λ ts us m. parts.literal_ended m)

follow_row : (o : Option Token) → IsSound part.follow (next part.follow o) o
follow_row o = by_symbol follows part.follow follow_move o (λ a ts us m. parts.follow_read m) (λ ts us m. parts.no_follow m)

more_classes_row : (o : Option Token) → IsSound part.more_classes (next part.more_classes o) o
more_classes_row o = by_symbol bar part.more_classes more_classes_move o (λ a ts us m. parts.classes_joined m) (λ ts us m. parts.classes_ended m)

class_except_row : (e : Bool) (o : Option Token) → IsSound (part.class_except e) (next (part.class_except e) o) o
class_except_row false o = λ ts us m. parts.no_class_except false m
class_except_row true o = by_symbol minus (part.class_except true) (class_except_move true) o (λ a ts us m. parts.class_except_read m) (λ ts us m. parts.no_class_except true m)

braces_row : (o : Option Token) → IsSound part.braces (next part.braces o) o
braces_row o = by_symbol open_brace part.braces braces_move o (λ a ts us m. parts.braces_read m) (λ ts us m. parts.no_braces m)

more_patterns_row : (o : Option Token) → IsSound part.more_patterns (next part.more_patterns o) o
more_patterns_row o =
    by_symbol comma part.more_patterns (λ b. more_patterns_move b (is_symbol bar o) (is_symbol ampersand o)) o (λ a ts us m. parts.patterns_joined by.IsConnector.group m)
    (by_symbol bar part.more_patterns (λ b. more_patterns_move false b (is_symbol ampersand o)) o (λ a ts us m. parts.patterns_joined by.IsConnector.choice m)
    (by_symbol ampersand part.more_patterns (λ b. more_patterns_move false false b) o (λ a ts us m. parts.patterns_joined by.IsConnector.interleave m) (λ ts us m. parts.patterns_ended m)))

more_members_row : (s : Symbol) (o : Option Token) → IsSound (part.more_members s) (next (part.more_members s) o) o
more_members_row s o = by_symbol s (part.more_members s) (more_members_move s) o (λ a ts us m. parts.members_joined s m) (λ ts us m. parts.members_ended s m)

postfix_row : (o : Option Token) → IsSound part.postfix (next part.postfix o) o
postfix_row o =
    by_symbol question part.postfix (λ b. postfix_move b (is_symbol star o) (is_symbol plus o)) o (λ a ts us m. parts.postfix_read by.IsPostfix.optional m)
    (by_symbol star part.postfix (λ b. postfix_move false b (is_symbol plus o)) o (λ a ts us m. parts.postfix_read by.IsPostfix.zero_or_more m)
    (by_symbol plus part.postfix (λ b. postfix_move false false b) o (λ a ts us m. parts.postfix_read by.IsPostfix.one_or_more m) (λ ts us m. parts.no_postfix m)))

except_row : (e : Bool) (o : Option Token) → IsSound (part.except e) (next (part.except e) o) o
except_row false o = λ ts us m. parts.no_except false m
except_row true o = by_symbol minus (part.except true) (except_move true) o (λ a ts us m. parts.except_read m) (λ ts us m. parts.no_except true m)

inner_row : (o : Option Token) → IsSound part.inner (next part.inner o) o
inner_row o = by_symbol open_brace part.inner inner_move o (λ a ts us m. parts.inner_read m) (λ ts us m. parts.no_inner m)

-- parts that are others in any case
blocks_row : (o : Option Token) (b : Bool) → IsSound part.blocks (blocks_move b) o
blocks_row o true = λ ts us m. parts.blocks_read m
blocks_row o false = λ ts us m. parts.no_blocks m

uri_row : (o : Option Token) (b : Bool) → IsSound part.uri (uri_move b) o
uri_row o true = λ ts us m. parts.inherit_read m
uri_row o false = λ ts us m. parts.uri_read m

default_prefix_row : (o : Option Token) (b : Bool) → IsSound part.default_prefix (default_prefix_move b) o
default_prefix_row o true = λ ts us m. parts.prefix_read m
default_prefix_row o false = λ ts us m. parts.no_prefix m

declaration_row : (o : Option Token) (d : DeclarationForm) → IsSound part.declaration (declaration_move d) o
declaration_row o DeclarationForm.Namespace = λ ts us m. parts.namespace_read m
declaration_row o DeclarationForm.Default = λ ts us m. parts.default_read m
declaration_row o DeclarationForm.Datatypes = λ ts us m. parts.datatypes_read m
declaration_row o DeclarationForm.Other = tt

declarations_row : (o : Option Token) (b : Bool) → IsSound part.declarations (declarations_move b) o
declarations_row o true = λ ts us m. parts.declarations_read m
declarations_row o false = λ ts us m. parts.no_declarations m

bare_class_row : (o : Option Token) (e : Bool) (c : ClassForm) → IsSound (part.bare_class e) (class_move e c) o
bare_class_row o e ClassForm.Plain = λ ts us m. parts.plain_class_read e m
bare_class_row o e ClassForm.Prefixed = λ ts us m. parts.prefixed_class_read e m
bare_class_row o e ClassForm.Parentheses = λ ts us m. parts.class_in_parentheses e m
bare_class_row o e ClassForm.Any = λ ts us m. parts.any_read e m
bare_class_row o e ClassForm.Namespace = λ ts us m. parts.any_in_namespace e m
bare_class_row o e ClassForm.Other = tt

parameters_row : (o : Option Token) (b : Bool) → IsSound part.parameters (parameters_move b) o
parameters_row o true = λ ts us m. parts.parameters_read m
parameters_row o false = λ ts us m. parts.no_parameters m

passed_row : (o : Option Token) (b : Bool) → IsSound part.passed (passed_move b) o
passed_row o true = λ ts us m. parts.passed_read m
passed_row o false = λ ts us m. parts.none_passed m

bare_row : (o : Option Token) (e : Bool) (p : PatternForm) → IsSound (part.bare e) (pattern_move e p) o
bare_row o e PatternForm.Element = λ ts us m. parts.element_read e m
bare_row o e PatternForm.Attribute = λ ts us m. parts.attribute_read e m
bare_row o e PatternForm.List = λ ts us m. parts.list_read e m
bare_row o e PatternForm.Mixed = λ ts us m. parts.mixed_read e m
bare_row o e PatternForm.Reference = λ ts us m. parts.reference_read e m
bare_row o e PatternForm.Parent = λ ts us m. parts.parent_read e m
bare_row o e PatternForm.Empty = λ ts us m. parts.empty_read e m
bare_row o e PatternForm.Text = λ ts us m. parts.text_read e m
bare_row o e PatternForm.NotAllowed = λ ts us m. parts.not_allowed_read e m
bare_row o e PatternForm.Literal = λ ts us m. parts.value_read e m
bare_row o e PatternForm.Typed = λ ts us m. parts.typed_read e m
bare_row o e PatternForm.External = λ ts us m. parts.external_read e m
bare_row o e PatternForm.Grammar = λ ts us m. parts.grammar_read e m
bare_row o e PatternForm.Parentheses = λ ts us m. parts.pattern_in_parentheses e m
bare_row o e PatternForm.Other = tt

typed_row : (o : Option Token) (e b : Bool) → IsSound (part.typed e) (typed_move e b) o
typed_row o e true = λ ts us m. parts.typed_value_read e m
typed_row o e false = λ ts us m. parts.type_alone_read e m

item_row : (o : Option Token) (i : Bool) (f : ItemForm) → IsSound (part.item i) (item_move i f) o
item_row o i ItemForm.Start = λ ts us m. parts.start_read i m
item_row o i ItemForm.Named = λ ts us m. parts.define_read i m
item_row o i ItemForm.Div = λ ts us m. parts.div_read i m
item_row o false ItemForm.Include = λ ts us m. parts.include_read m
item_row o true ItemForm.Include = tt
item_row o i ItemForm.Prefixed = tt
item_row o i ItemForm.Annotated = tt
item_row o i ItemForm.End = tt
item_row o i ItemForm.Other = tt

behind_name_row : (o : Option Token) (b : Bool) → IsSound part.behind_name (behind_name_move b) o
behind_name_row o true = λ ts us m. parts.named_annotation_read m
behind_name_row o false = λ ts us m. parts.definition_read m

next_item_row : (o : Option Token) (i : Bool) (f : ItemForm) → IsSound (part.next_item i) (next_item_move i f) o
next_item_row o i ItemForm.Annotated = λ ts us m. parts.annotated_item_read i m
next_item_row o i ItemForm.Named = λ ts us m. parts.named_next i m
next_item_row o i ItemForm.Prefixed = λ ts us m. parts.annotation_read i m
next_item_row o i _ = λ ts us m. parts.item_read i m

items_row : (o : Option Token) (i b : Bool) → IsSound (part.items i) (items_move i b) o
items_row o i true = λ ts us m. parts.items_read i m
items_row o i false = λ ts us m. parts.no_items i m

body_row : (o : Option Token) (f : ItemForm) → IsSound part.body (body_move f) o
body_row o ItemForm.Annotated = λ ts us m. parts.annotated_body_read m
body_row o ItemForm.Named = λ ts us m. parts.named_body_read m
body_row o ItemForm.Prefixed = λ ts us m. parts.typed_body_read m
body_row o ItemForm.Other = λ ts us m. parts.pattern_body_read m
body_row o _ = λ ts us m. parts.items_body_read m

named_body_row : (o : Option Token) (b c : Bool) → IsSound part.named_body (named_body_move b c) o
named_body_row o true c = λ ts us m. parts.first_annotation_read m
named_body_row o false true = λ ts us m. parts.first_define_read m
named_body_row o false false = λ ts us m. parts.first_reference_read m

typed_body_row : (o : Option Token) (b : Bool) → IsSound part.typed_body (typed_body_move b) o
typed_body_row o true = λ ts us m. parts.typed_annotation_read m
typed_body_row o false = λ ts us m. parts.first_type_read m

annotated_body_row : (o : Option Token) (f : ItemForm) → IsSound part.annotated_body (annotated_move f) o
annotated_body_row o ItemForm.Start = λ ts us m. parts.first_item_read m
annotated_body_row o ItemForm.Div = λ ts us m. parts.first_item_read m
annotated_body_row o ItemForm.Include = λ ts us m. parts.first_item_read m
annotated_body_row o ItemForm.Named = λ ts us m. parts.annotated_name_read m
annotated_body_row o _ = λ ts us m. parts.annotated_pattern_read m

annotated_name_row : (o : Option Token) (b : Bool) → IsSound part.annotated_name (annotated_name_move b) o
annotated_name_row o true = λ ts us m. parts.annotated_define_read m
annotated_name_row o false = λ ts us m. parts.annotated_reference_read m

-- the table
pub sound : (x : Part) (o : Option Token) → IsSound x (next x o) o
sound (part.sign s) o = sign_row s o
sound (part.word k) o = word_row k o
sound part.name o = name_row o
sound part.plain_name o = plain_name_row o
sound part.prefixed_name o = prefixed_name_row o
sound part.namespace_name o = namespace_name_row o
sound part.annotation_name o = annotation_name_row o
sound part.one_segment o = segment_row o
sound part.type_name o = type_row o
sound part.assign o = assign_row o
sound part.end o = end_row o
sound part.literal o = λ ts us m. parts.literal_read m
sound part.more_literal o = more_literal_row o
sound part.filling o = filling_row o
sound part.block o = λ ts us m. parts.block_read m
sound part.blocks o = blocks_row o _
sound part.follow o = follow_row o
sound part.uri o = uri_row o _
sound part.default_prefix o = default_prefix_row o _
sound part.declaration o = declaration_row o _
sound part.declarations o = declarations_row o _
sound part.class o = λ ts us m. parts.class_read m
sound part.more_classes o = more_classes_row o
sound part.simple o = λ ts us m. parts.simple_read m
sound (part.bare_class e) o = bare_class_row o e _
sound (part.class_except e) o = class_except_row e o
sound part.parameter o = λ ts us m. parts.parameter_read m
sound part.parameters o = parameters_row o _
sound part.braces o = braces_row o
sound part.passed o = passed_row o _
sound part.pattern o = λ ts us m. parts.pattern_read m
sound part.more_patterns o = more_patterns_row o
sound (part.members s) o = λ ts us m. parts.members_read s m
sound (part.more_members s) o = more_members_row s o
sound part.particle o = λ ts us m. parts.particle_read m
sound part.postfix o = postfix_row o
sound part.primary o = λ ts us m. parts.primary_read m
sound (part.bare e) o = bare_row o e _
sound (part.typed e) o = typed_row o e _
sound (part.except e) o = except_row e o
sound part.braced o = λ ts us m. parts.braced_read m
sound (part.item i) o = item_row o i _
sound part.named_item o = λ ts us m. parts.named_item_read m
sound part.behind_name o = behind_name_row o _
sound (part.next_item i) o = next_item_row o i _
sound (part.items i) o = items_row o i _
sound part.inner o = inner_row o
sound part.body o = body_row o _
sound part.named_body o = named_body_row o _ _
sound part.typed_body o = typed_body_row o _
sound part.annotated_body o = annotated_body_row o _
sound part.annotated_name o = annotated_name_row o _
