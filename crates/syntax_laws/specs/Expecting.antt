-- A reader of the grammar that looks at one token at a time. It holds a list of the parts that it expects, the next one first.
use Rattle.std.specs.Prelude.{◌≡◌, ℕ, Bool, true, false, if◌then◌else◌, ◌==◌, List, [], ◌∷◌, ◌++◌, Option, Some, None}
use Rattle.token_laws.specs.Tokens.{Keyword, Symbol, Token, keyword, ident, cname, ns_name, segment, symbol, Placed, ◌at◌}
use Rattle.token_laws.specs.Tokens.{open_brace, close_brace, open_paren, close_paren, open_bracket, close_bracket, equals, bar_equals, ampersand_equals, comma, ampersand, bar, question, star, plus, minus, tilde, follows}
use Rattle.token_laws.specs.Tokens as kw
use Rattle.syntax_laws.specs.declared.forms.PatternForm.{PatternForm}
use Rattle.syntax_laws.specs.declared.forms.ClassForm.{ClassForm}
use Rattle.syntax_laws.specs.declared.forms.ItemForm.{ItemForm}
use Rattle.syntax_laws.specs.declared.forms.DeclarationForm.{DeclarationForm}

abbrev pub first : List Placed → Option Token
first [] = None
first (t at a ∷ ts) = Some t

abbrev pub symbol_number : Symbol → ℕ
symbol_number open_brace = 0
symbol_number close_brace = 1
symbol_number open_paren = 2
symbol_number close_paren = 3
symbol_number open_bracket = 4
symbol_number close_bracket = 5
symbol_number equals = 6
symbol_number bar_equals = 7
symbol_number ampersand_equals = 8
symbol_number comma = 9
symbol_number ampersand = 10
symbol_number bar = 11
symbol_number question = 12
symbol_number star = 13
symbol_number plus = 14
symbol_number minus = 15
symbol_number tilde = 16
symbol_number follows = 17

abbrev pub keyword_number : Keyword → ℕ
keyword_number kw.attribute = 0
keyword_number kw.default = 1
keyword_number kw.datatypes = 2
keyword_number kw.div = 3
keyword_number kw.element = 4
keyword_number kw.empty = 5
keyword_number kw.external = 6
keyword_number kw.grammar = 7
keyword_number kw.include = 8
keyword_number kw.inherit = 9
keyword_number kw.list = 10
keyword_number kw.mixed = 11
keyword_number kw.namespace = 12
keyword_number kw.not_allowed = 13
keyword_number kw.parent = 14
keyword_number kw.start = 15
keyword_number kw.string = 16
keyword_number kw.text = 17
keyword_number kw.token = 18

-- the symbol s is next
abbrev pub is_symbol : Symbol → Option Token → Bool
is_symbol s (Some (symbol t)) = symbol_number t == symbol_number s
is_symbol s _ = false

-- the keyword k is next
abbrev pub is_word : Keyword → Option Token → Bool
is_word k (Some (keyword l)) = keyword_number l == keyword_number k
is_word k _ = false

abbrev pub is_segment : Option Token → Bool
is_segment (Some (segment s)) = true
is_segment _ = false

-- an identifier or a keyword is next
abbrev pub is_name : Option Token → Bool
is_name (Some (keyword k)) = true
is_name (Some (ident n)) = true
is_name _ = false

-- a parameter begins: an annotation or a name is next
abbrev pub begins_parameter : Option Token → Bool
begins_parameter (Some (keyword k)) = true
begins_parameter (Some (ident n)) = true
begins_parameter (Some (symbol open_bracket)) = true
begins_parameter _ = false

-- `=`, `|=` or `&=` is next
abbrev pub is_assign : Option Token → Bool
is_assign (Some (symbol equals)) = true
is_assign (Some (symbol bar_equals)) = true
is_assign (Some (symbol ampersand_equals)) = true
is_assign _ = false

-- a declaration begins
abbrev pub begins_declaration : Option Token → Bool
begins_declaration (Some (keyword kw.namespace)) = true
begins_declaration (Some (keyword kw.default)) = true
begins_declaration (Some (keyword kw.datatypes)) = true
begins_declaration _ = false

-- an item or an annotation in its place begins
abbrev pub begins_item : Option Token → Bool
begins_item (Some (keyword kw.start)) = true
begins_item (Some (keyword kw.div)) = true
begins_item (Some (keyword kw.include)) = true
begins_item (Some (ident n)) = true
begins_item (Some (cname p n)) = true
begins_item (Some (symbol open_bracket)) = true
begins_item _ = false

-- which bare pattern begins
abbrev pub pattern_form : Option Token → PatternForm
pattern_form (Some (keyword kw.element)) = PatternForm.Element
pattern_form (Some (keyword kw.attribute)) = PatternForm.Attribute
pattern_form (Some (keyword kw.list)) = PatternForm.List
pattern_form (Some (keyword kw.mixed)) = PatternForm.Mixed
pattern_form (Some (ident n)) = PatternForm.Reference
pattern_form (Some (keyword kw.parent)) = PatternForm.Parent
pattern_form (Some (keyword kw.empty)) = PatternForm.Empty
pattern_form (Some (keyword kw.text)) = PatternForm.Text
pattern_form (Some (keyword kw.not_allowed)) = PatternForm.NotAllowed
pattern_form (Some (segment s)) = PatternForm.Literal
pattern_form (Some (cname p n)) = PatternForm.Typed
pattern_form (Some (keyword kw.string)) = PatternForm.Typed
pattern_form (Some (keyword kw.token)) = PatternForm.Typed
pattern_form (Some (keyword kw.external)) = PatternForm.External
pattern_form (Some (keyword kw.grammar)) = PatternForm.Grammar
pattern_form (Some (symbol open_paren)) = PatternForm.Parentheses
pattern_form _ = PatternForm.Other

-- which bare name class begins
abbrev pub class_form : Option Token → ClassForm
class_form (Some (keyword k)) = ClassForm.Plain
class_form (Some (ident n)) = ClassForm.Plain
class_form (Some (cname p n)) = ClassForm.Prefixed
class_form (Some (symbol open_paren)) = ClassForm.Parentheses
class_form (Some (symbol star)) = ClassForm.Any
class_form (Some (ns_name p)) = ClassForm.Namespace
class_form _ = ClassForm.Other

-- which item begins
abbrev pub item_form : Option Token → ItemForm
item_form (Some (keyword kw.start)) = ItemForm.Start
item_form (Some (keyword kw.div)) = ItemForm.Div
item_form (Some (keyword kw.include)) = ItemForm.Include
item_form (Some (ident n)) = ItemForm.Named
item_form (Some (cname p n)) = ItemForm.Prefixed
item_form (Some (symbol open_bracket)) = ItemForm.Annotated
item_form None = ItemForm.End
item_form _ = ItemForm.Other

-- which declaration begins
abbrev pub declaration_form : Option Token → DeclarationForm
declaration_form (Some (keyword kw.namespace)) = DeclarationForm.Namespace
declaration_form (Some (keyword kw.default)) = DeclarationForm.Default
declaration_form (Some (keyword kw.datatypes)) = DeclarationForm.Datatypes
declaration_form _ = DeclarationForm.Other

-- A flag tells whether an except may stand there, or whether the items stand in an include's braces.
pub data Part : Type 0 where
  sign : Symbol → Part
  word : Keyword → Part
  name : Part
  plain_name : Part
  prefixed_name : Part
  namespace_name : Part
  annotation_name : Part
  one_segment : Part
  type_name : Part
  assign : Part
  end : Part
  literal : Part
  more_literal : Part
  filling : Part
  block : Part
  blocks : Part
  follow : Part
  uri : Part
  default_prefix : Part
  declaration : Part
  declarations : Part
  class : Part
  more_classes : Part
  simple : Part
  bare_class : Bool → Part
  class_except : Bool → Part
  parameter : Part
  parameters : Part
  braces : Part
  passed : Part
  pattern : Part
  more_patterns : Part
  members : Symbol → Part
  more_members : Symbol → Part
  particle : Part
  postfix : Part
  primary : Part
  bare : Bool → Part
  typed : Bool → Part
  except : Bool → Part
  braced : Part
  item : Bool → Part
  named_item : Part
  behind_name : Part
  next_item : Bool → Part
  items : Bool → Part
  inner : Part
  body : Part
  named_body : Part
  typed_body : Part
  annotated_body : Part
  annotated_name : Part

-- what the next token does to the expected part: it is passed, and the list stands for the part; the list stands for the
-- part, and the token is still next; the part can't begin with it
pub data Move : Type 0 where
  pass : List Part → Move
  become : List Part → Move
  refuse : Move

abbrev pub name_move : Option Token → Move
name_move (Some (keyword k)) = pass []
name_move (Some (ident n)) = pass []
name_move _ = refuse

abbrev pub plain_name_move : Option Token → Move
plain_name_move (Some (ident n)) = pass []
plain_name_move _ = refuse

abbrev pub prefixed_name_move : Option Token → Move
prefixed_name_move (Some (cname p n)) = pass []
prefixed_name_move _ = refuse

abbrev pub namespace_name_move : Option Token → Move
namespace_name_move (Some (ns_name p)) = pass []
namespace_name_move _ = refuse

abbrev pub annotation_name_move : Option Token → Move
annotation_name_move (Some (keyword k)) = pass []
annotation_name_move (Some (ident n)) = pass []
annotation_name_move (Some (cname p n)) = pass []
annotation_name_move _ = refuse

abbrev pub segment_move : Option Token → Move
segment_move (Some (segment s)) = pass []
segment_move _ = refuse

abbrev pub type_move : Option Token → Move
type_move (Some (cname p n)) = pass []
type_move (Some (keyword kw.string)) = pass []
type_move (Some (keyword kw.token)) = pass []
type_move _ = refuse

abbrev pub end_move : Option Token → Move
end_move None = become []
end_move _ = refuse

abbrev pub filling_move : Option Token → Move
filling_move None = refuse
filling_move (Some (symbol close_bracket)) = pass []
filling_move (Some (symbol open_bracket)) = pass (filling ∷ filling ∷ [])
filling_move _ = pass (filling ∷ [])

abbrev pub declaration_move : DeclarationForm → Move
declaration_move DeclarationForm.Namespace = become (word kw.namespace ∷ name ∷ sign equals ∷ uri ∷ [])
declaration_move DeclarationForm.Default = become (word kw.default ∷ word kw.namespace ∷ default_prefix ∷ sign equals ∷ uri ∷ [])
declaration_move DeclarationForm.Datatypes = become (word kw.datatypes ∷ name ∷ sign equals ∷ literal ∷ [])
declaration_move DeclarationForm.Other = refuse

abbrev pub class_move : Bool → ClassForm → Move
class_move e ClassForm.Plain = become (name ∷ [])
class_move e ClassForm.Prefixed = become (prefixed_name ∷ [])
class_move e ClassForm.Parentheses = become (sign open_paren ∷ class ∷ sign close_paren ∷ [])
class_move e ClassForm.Any = become (sign star ∷ class_except e ∷ [])
class_move e ClassForm.Namespace = become (namespace_name ∷ class_except e ∷ [])
class_move e ClassForm.Other = refuse

abbrev pub pattern_move : Bool → PatternForm → Move
pattern_move e PatternForm.Element = become (word kw.element ∷ class ∷ braced ∷ [])
pattern_move e PatternForm.Attribute = become (word kw.attribute ∷ class ∷ braced ∷ [])
pattern_move e PatternForm.List = become (word kw.list ∷ braced ∷ [])
pattern_move e PatternForm.Mixed = become (word kw.mixed ∷ braced ∷ [])
pattern_move e PatternForm.Reference = become (plain_name ∷ [])
pattern_move e PatternForm.Parent = become (word kw.parent ∷ plain_name ∷ [])
pattern_move e PatternForm.Empty = become (word kw.empty ∷ [])
pattern_move e PatternForm.Text = become (word kw.text ∷ [])
pattern_move e PatternForm.NotAllowed = become (word kw.not_allowed ∷ [])
pattern_move e PatternForm.Literal = become (literal ∷ [])
pattern_move e PatternForm.Typed = become (type_name ∷ typed e ∷ [])
pattern_move e PatternForm.External = become (word kw.external ∷ literal ∷ passed ∷ [])
pattern_move e PatternForm.Grammar = become (word kw.grammar ∷ sign open_brace ∷ items false ∷ sign close_brace ∷ [])
pattern_move e PatternForm.Parentheses = become (sign open_paren ∷ pattern ∷ sign close_paren ∷ [])
pattern_move e PatternForm.Other = refuse

abbrev pub item_move : Bool → ItemForm → Move
item_move i ItemForm.Start = become (word kw.start ∷ assign ∷ pattern ∷ [])
item_move i ItemForm.Named = become (plain_name ∷ assign ∷ pattern ∷ [])
item_move i ItemForm.Div = become (word kw.div ∷ sign open_brace ∷ items i ∷ sign close_brace ∷ [])
item_move false ItemForm.Include = become (word kw.include ∷ literal ∷ passed ∷ inner ∷ [])
item_move i _ = refuse

abbrev pub next_item_move : Bool → ItemForm → Move
next_item_move i ItemForm.Annotated = become (blocks ∷ item i ∷ [])
next_item_move i ItemForm.Named = become (named_item ∷ [])
next_item_move i ItemForm.Prefixed = become (prefixed_name ∷ block ∷ [])
next_item_move i _ = become (item i ∷ [])

abbrev pub body_move : ItemForm → Move
body_move ItemForm.Annotated = become (blocks ∷ annotated_body ∷ [])
body_move ItemForm.Named = become (plain_name ∷ named_body ∷ [])
body_move ItemForm.Prefixed = become (prefixed_name ∷ typed_body ∷ [])
body_move ItemForm.Other = become (pattern ∷ [])
body_move _ = become (items false ∷ [])

abbrev pub annotated_move : ItemForm → Move
annotated_move ItemForm.Start = become (item false ∷ items false ∷ [])
annotated_move ItemForm.Div = become (item false ∷ items false ∷ [])
annotated_move ItemForm.Include = become (item false ∷ items false ∷ [])
annotated_move ItemForm.Named = become (plain_name ∷ annotated_name ∷ [])
annotated_move _ = become (bare true ∷ follow ∷ postfix ∷ more_patterns ∷ [])

abbrev pub more_literal_move : Bool → Move
more_literal_move true = pass (literal ∷ [])
more_literal_move false = become []

abbrev pub blocks_move : Bool → Move
blocks_move true = become (block ∷ blocks ∷ [])
blocks_move false = become []

abbrev pub follow_move : Bool → Move
follow_move true = pass (annotation_name ∷ block ∷ follow ∷ [])
follow_move false = become []

abbrev pub uri_move : Bool → Move
uri_move true = become (word kw.inherit ∷ [])
uri_move false = become (literal ∷ [])

abbrev pub default_prefix_move : Bool → Move
default_prefix_move true = become (name ∷ [])
default_prefix_move false = become []

abbrev pub declarations_move : Bool → Move
declarations_move true = become (declaration ∷ declarations ∷ [])
declarations_move false = become []

abbrev pub more_classes_move : Bool → Move
more_classes_move true = pass (class ∷ [])
more_classes_move false = become []

abbrev pub parameters_move : Bool → Move
parameters_move true = become (parameter ∷ parameters ∷ [])
parameters_move false = become []

abbrev pub braces_move : Bool → Move
braces_move true = pass (parameters ∷ sign close_brace ∷ [])
braces_move false = become []

abbrev pub passed_move : Bool → Move
passed_move true = become (word kw.inherit ∷ sign equals ∷ name ∷ [])
passed_move false = become []

abbrev pub behind_name_move : Bool → Move
behind_name_move true = become (block ∷ [])
behind_name_move false = become (assign ∷ pattern ∷ [])

abbrev pub inner_move : Bool → Move
inner_move true = pass (items true ∷ sign close_brace ∷ [])
inner_move false = become []

abbrev pub typed_body_move : Bool → Move
typed_body_move true = become (block ∷ items false ∷ [])
typed_body_move false = become (typed true ∷ follow ∷ postfix ∷ more_patterns ∷ [])

abbrev pub annotated_name_move : Bool → Move
annotated_name_move true = become (assign ∷ pattern ∷ items false ∷ [])
annotated_name_move false = become (follow ∷ postfix ∷ more_patterns ∷ [])

abbrev pub more_members_move : Symbol → Bool → Move
more_members_move s true = pass (members s ∷ [])
more_members_move s false = become []

abbrev pub class_except_move : Bool → Bool → Move
class_except_move true true = pass (blocks ∷ bare_class false ∷ [])
class_except_move e b = become []

abbrev pub except_move : Bool → Bool → Move
except_move true true = pass (blocks ∷ bare false ∷ [])
except_move e b = become []

abbrev pub typed_move : Bool → Bool → Move
typed_move e true = become (literal ∷ [])
typed_move e false = become (braces ∷ except e ∷ [])

abbrev pub items_move : Bool → Bool → Move
items_move i true = become (next_item i ∷ items i ∷ [])
items_move i false = become []

-- by a comma, a bar and an ampersand
abbrev pub more_patterns_move : Bool → Bool → Bool → Move
more_patterns_move true b c = pass (members comma ∷ [])
more_patterns_move false true c = pass (members bar ∷ [])
more_patterns_move false false true = pass (members ampersand ∷ [])
more_patterns_move false false false = become []

-- by `?`, `*` and `+`
abbrev pub postfix_move : Bool → Bool → Bool → Move
postfix_move false false false = become []
postfix_move a b c = pass (follow ∷ [])

-- by `[` and an assignment sign
abbrev pub named_body_move : Bool → Bool → Move
named_body_move true b = become (block ∷ items false ∷ [])
named_body_move false true = become (assign ∷ pattern ∷ items false ∷ [])
named_body_move false false = become (follow ∷ postfix ∷ more_patterns ∷ [])

abbrev pub next : Part → Option Token → Move
next (sign s) t = if is_symbol s t then pass [] else refuse
next (word k) t = if is_word k t then pass [] else refuse
next name t = name_move t
next plain_name t = plain_name_move t
next prefixed_name t = prefixed_name_move t
next namespace_name t = namespace_name_move t
next annotation_name t = annotation_name_move t
next one_segment t = segment_move t
next type_name t = type_move t
next assign t = if is_assign t then pass [] else refuse
next end t = end_move t
next literal t = become (one_segment ∷ more_literal ∷ [])
next more_literal t = more_literal_move (is_symbol tilde t)
next filling t = filling_move t
next block t = become (sign open_bracket ∷ filling ∷ [])
next blocks t = blocks_move (is_symbol open_bracket t)
next follow t = follow_move (is_symbol follows t)
next uri t = uri_move (is_word kw.inherit t)
next default_prefix t = default_prefix_move (is_name t)
next declaration t = declaration_move (declaration_form t)
next declarations t = declarations_move (begins_declaration t)
next class t = become (simple ∷ more_classes ∷ [])
next more_classes t = more_classes_move (is_symbol bar t)
next simple t = become (blocks ∷ bare_class true ∷ follow ∷ [])
next (bare_class e) t = class_move e (class_form t)
next (class_except e) t = class_except_move e (is_symbol minus t)
next parameter t = become (blocks ∷ name ∷ sign equals ∷ literal ∷ [])
next parameters t = parameters_move (begins_parameter t)
next braces t = braces_move (is_symbol open_brace t)
next passed t = passed_move (is_word kw.inherit t)
next pattern t = become (particle ∷ more_patterns ∷ [])
next more_patterns t = more_patterns_move (is_symbol comma t) (is_symbol bar t) (is_symbol ampersand t)
next (members s) t = become (particle ∷ more_members s ∷ [])
next (more_members s) t = more_members_move s (is_symbol s t)
next particle t = become (primary ∷ postfix ∷ [])
next postfix t = postfix_move (is_symbol question t) (is_symbol star t) (is_symbol plus t)
next primary t = become (blocks ∷ bare true ∷ follow ∷ [])
next (bare e) t = pattern_move e (pattern_form t)
next (typed e) t = typed_move e (is_segment t)
next (except e) t = except_move e (is_symbol minus t)
next braced t = become (sign open_brace ∷ pattern ∷ sign close_brace ∷ [])
next (item i) t = item_move i (item_form t)
next named_item t = become (plain_name ∷ behind_name ∷ [])
next behind_name t = behind_name_move (is_symbol open_bracket t)
next (next_item i) t = next_item_move i (item_form t)
next (items i) t = items_move i (begins_item t)
next inner t = inner_move (is_symbol open_brace t)
next body t = body_move (item_form t)
next named_body t = named_body_move (is_symbol open_bracket t) (is_assign t)
next typed_body t = typed_body_move (is_symbol open_bracket t)
next annotated_body t = annotated_move (item_form t)
next annotated_name t = annotated_name_move (is_assign t)

-- from the parts xs before the tokens ts the reader comes to the parts ys before the tokens us
pub data Runs : List Part → List Placed → List Part → List Placed → Type 0 where
  stay : {xs : List Part} {ts : List Placed} → Runs xs ts xs ts
  passes : {x : Part} {xs ys rest : List Part} {t : Token} {a : ℕ} {ts us : List Placed} →
      next x (Some t) ≡ pass xs → Runs (xs ++ rest) ts ys us → Runs (x ∷ rest) (t at a ∷ ts) ys us
  becomes : {x : Part} {xs ys rest : List Part} {ts us : List Placed} →
      next x (first ts) ≡ become xs → Runs (xs ++ rest) ts ys us → Runs (x ∷ rest) ts ys us

-- the reader has read the parts xs from ts on, but for the parts ys, and stands before us
pub record Stands (xs : List Part) (ts : List Placed) (ys : List Part) (us : List Placed) : Type 0 where
  pub runs : (rest : List Part) → Runs (xs ++ rest) ts (ys ++ rest) us

-- the first of the parts can't begin with the next token
abbrev pub IsRefused : List Part → List Placed → Type 0
IsRefused [] ts = ⊥
IsRefused (x ∷ xs) ts = next x (first ts) ≡ refuse

-- reading the parts xs from ts on fails at the first token of us
abbrev pub Sticks : List Part → List Placed → List Placed → Type 0
Sticks xs ts us = (ys : List Part) × Stands xs ts ys us × IsRefused ys us
