-- What the reader expects where a part of the grammar ends: no more of it.
use Rattle.std.proofs.Common.{◌≡◌, ℕ, Bool, true, false, List, [], ◌∷◌, Some, refl, arith}
use Rattle.rng_model.specs.Texts.{Text}
use Rattle.token_laws.specs.Tokens.{Keyword, Symbol, Token, keyword, ident, cname, ns_name, segment, symbol, Placed, ◌at◌, open_brace, close_brace, open_paren, close_paren, open_bracket, close_bracket, equals, bar_equals, ampersand_equals, comma, ampersand, bar, question, star, plus, minus, tilde, follows}
use Rattle.token_laws.specs.Tokens as word
use Rattle.grammar_laws.specs.Trees.{TypeName, Method, Patterns, Pattern}
use Rattle.grammar_laws.specs.Grammar.{IsAnyId, IsAnnotationName, IsNoBracket, IsType, IsConnector, IsPostfix, IsAssign}
use Rattle.grammar_laws.specs.Grammar as by
use Rattle.grammar_laws.proofs.Ends.{Stops, rank, class_rank, tilde_rank, bracket_rank, brace_rank, inherit_rank, follows_rank}
use Rattle.grammar_laws.proofs.Declarations.{declaration_rank}
use Rattle.grammar_laws.proofs.Parameters.{IsClosed}
use Rattle.syntax_laws.specs.Expecting.{Part, pass, become, first, next}
use Rattle.syntax_laws.specs.Expecting as part

pub literal_ends : (ts : List Placed) → Stops tilde_rank 0 ts → next part.more_literal (first ts) ≡ become []
literal_ends [] e = refl
literal_ends (symbol tilde at a ∷ ts) e = absurd (omega arith)
literal_ends (t at a ∷ ts) e = refl

pub blocks_end : (ts : List Placed) → Stops bracket_rank 0 ts → next part.blocks (first ts) ≡ become []
blocks_end [] e = refl
blocks_end (symbol open_bracket at a ∷ ts) e = absurd (omega arith)
blocks_end (t at a ∷ ts) e = refl

pub follow_ends : (ts : List Placed) → Stops follows_rank 0 ts → next part.follow (first ts) ≡ become []
follow_ends [] e = refl
follow_ends (symbol follows at a ∷ ts) e = absurd (omega arith)
follow_ends (t at a ∷ ts) e = refl

pub classes_end : (ts : List Placed) → Stops class_rank 0 ts → next part.more_classes (first ts) ≡ become []
classes_end [] e = refl
classes_end (symbol bar at a ∷ ts) e = absurd (omega arith)
classes_end (t at a ∷ ts) e = refl

pub class_except_ends : (b : Bool) (ts : List Placed) → Stops class_rank 3 ts → next (part.class_except b) (first ts) ≡ become []
class_except_ends false ts e = refl
class_except_ends true [] e = refl
class_except_ends true (symbol minus at a ∷ ts) e = absurd (omega arith)
class_except_ends true (t at a ∷ ts) e = refl

pub parameters_end : (ts : List Placed) → IsClosed ts → next part.parameters (first ts) ≡ become []
parameters_end [] e = refl
parameters_end (symbol close_brace at a ∷ ts) e = refl
parameters_end (t at a ∷ ts) e = elim e [ ]

pub braces_end : (ts : List Placed) → Stops brace_rank 0 ts → next part.braces (first ts) ≡ become []
braces_end [] e = refl
braces_end (symbol open_brace at a ∷ ts) e = absurd (omega arith)
braces_end (t at a ∷ ts) e = refl

pub passed_ends : (ts : List Placed) → Stops inherit_rank 0 ts → next part.passed (first ts) ≡ become []
passed_ends [] e = refl
passed_ends (keyword word.inherit at a ∷ ts) e = absurd (omega arith)
passed_ends (t at a ∷ ts) e = refl

pub pattern_ends : (ts : List Placed) → Stops rank 0 ts → next part.more_patterns (first ts) ≡ become []
pattern_ends [] e = refl
pattern_ends (symbol comma at a ∷ ts) e = absurd (omega arith)
pattern_ends (symbol bar at a ∷ ts) e = absurd (omega arith)
pattern_ends (symbol ampersand at a ∷ ts) e = absurd (omega arith)
pattern_ends (t at a ∷ ts) e = refl

pub members_end : {s : Symbol} {join : Patterns → Pattern} → IsConnector s join → (ts : List Placed) → Stops rank 0 ts → next (part.more_members s) (first ts) ≡ become []
members_end by.IsConnector.group [] e = refl
members_end by.IsConnector.group (symbol comma at a ∷ ts) e = absurd (omega arith)
members_end by.IsConnector.group (t at a ∷ ts) e = refl
members_end by.IsConnector.choice [] e = refl
members_end by.IsConnector.choice (symbol bar at a ∷ ts) e = absurd (omega arith)
members_end by.IsConnector.choice (t at a ∷ ts) e = refl
members_end by.IsConnector.interleave [] e = refl
members_end by.IsConnector.interleave (symbol ampersand at a ∷ ts) e = absurd (omega arith)
members_end by.IsConnector.interleave (t at a ∷ ts) e = refl

pub postfix_ends : (ts : List Placed) → Stops rank 1 ts → next part.postfix (first ts) ≡ become []
postfix_ends [] e = refl
postfix_ends (symbol question at a ∷ ts) e = absurd (omega arith)
postfix_ends (symbol star at a ∷ ts) e = absurd (omega arith)
postfix_ends (symbol plus at a ∷ ts) e = absurd (omega arith)
postfix_ends (t at a ∷ ts) e = refl

pub except_ends : (b : Bool) (ts : List Placed) → Stops rank 3 ts → next (part.except b) (first ts) ≡ become []
except_ends false ts e = refl
except_ends true [] e = refl
except_ends true (symbol minus at a ∷ ts) e = absurd (omega arith)
except_ends true (t at a ∷ ts) e = refl

-- no value stands behind the type
pub no_value : (b : Bool) (ts : List Placed) → Stops rank 4 ts → next (part.typed b) (first ts) ≡ become (part.braces ∷ part.except b ∷ [])
no_value b [] e = refl
no_value b (segment s at a ∷ ts) e = absurd (omega arith)
no_value b (t at a ∷ ts) e = refl

pub inner_ends : (ts : List Placed) → Stops brace_rank 0 ts → next part.inner (first ts) ≡ become []
inner_ends [] e = refl
inner_ends (symbol open_brace at a ∷ ts) e = absurd (omega arith)
inner_ends (t at a ∷ ts) e = refl

pub items_end : (b : Bool) (ts : List Placed) → IsClosed ts → next (part.items b) (first ts) ≡ become []
items_end b [] e = refl
items_end b (symbol close_brace at a ∷ ts) e = refl
items_end b (t at a ∷ ts) e = elim e [ ]

pub declarations_end : (ts : List Placed) → Stops declaration_rank 0 ts → next part.declarations (first ts) ≡ become []
declarations_end [] e = refl
declarations_end (keyword word.namespace at a ∷ ts) e = absurd (omega arith)
declarations_end (keyword word.default at a ∷ ts) e = absurd (omega arith)
declarations_end (keyword word.datatypes at a ∷ ts) e = absurd (omega arith)
declarations_end (t at a ∷ ts) e = refl

-- One token.

pub name_passes : (t : Token) (n : Text) → IsAnyId t n → next part.name (Some t) ≡ pass []
name_passes (keyword k) n i = refl
name_passes (ident m) n i = refl
name_passes (cname p m) n i = elim i [ ]
name_passes (ns_name p) n i = elim i [ ]
name_passes (segment s) n i = elim i [ ]
name_passes (symbol s) n i = elim i [ ]

pub prefix_begins : (t : Token) (n : Text) → IsAnyId t n → next part.default_prefix (Some t) ≡ become (part.name ∷ [])
prefix_begins (keyword k) n i = refl
prefix_begins (ident m) n i = refl
prefix_begins (cname p m) n i = elim i [ ]
prefix_begins (ns_name p) n i = elim i [ ]
prefix_begins (segment s) n i = elim i [ ]
prefix_begins (symbol s) n i = elim i [ ]

pub class_name : (b : Bool) (t : Token) (n : Text) → IsAnyId t n → next (part.bare_class b) (Some t) ≡ become (part.name ∷ [])
class_name b (keyword k) n i = refl
class_name b (ident m) n i = refl
class_name b (cname p m) n i = elim i [ ]
class_name b (ns_name p) n i = elim i [ ]
class_name b (segment s) n i = elim i [ ]
class_name b (symbol s) n i = elim i [ ]

pub parameter_begins : (t : Token) (n : Text) → IsAnyId t n → next part.parameters (Some t) ≡ become (part.parameter ∷ part.parameters ∷ [])
parameter_begins (keyword k) n i = refl
parameter_begins (ident m) n i = refl
parameter_begins (cname p m) n i = elim i [ ]
parameter_begins (ns_name p) n i = elim i [ ]
parameter_begins (segment s) n i = elim i [ ]
parameter_begins (symbol s) n i = elim i [ ]

pub annotation_name_passes : (t : Token) → IsAnnotationName t → next part.annotation_name (Some t) ≡ pass []
annotation_name_passes (keyword k) i = refl
annotation_name_passes (ident m) i = refl
annotation_name_passes (cname p m) i = refl
annotation_name_passes (ns_name p) i = elim i [ ]
annotation_name_passes (segment s) i = elim i [ ]
annotation_name_passes (symbol s) i = elim i [ ]

pub filling_passes : (t : Token) → IsNoBracket t → next part.filling (Some t) ≡ pass (part.filling ∷ [])
filling_passes (symbol open_bracket) h = elim h [ ]
filling_passes (symbol close_bracket) h = elim h [ ]
filling_passes t h = refl

pub type_passes : {t : Token} {a : ℕ} {of : TypeName} → IsType t a of → next part.type_name (Some t) ≡ pass []
type_passes by.IsType.prefixed = refl
type_passes by.IsType.string = refl
type_passes by.IsType.token = refl

pub type_begins : (b : Bool) {t : Token} {a : ℕ} {of : TypeName} → IsType t a of → next (part.bare b) (Some t) ≡ become (part.type_name ∷ part.typed b ∷ [])
type_begins b by.IsType.prefixed = refl
type_begins b by.IsType.string = refl
type_begins b by.IsType.token = refl

pub assign_passes : {s : Symbol} {m : Method} → IsAssign s m → next part.assign (Some (symbol s)) ≡ pass []
assign_passes by.IsAssign.plain = refl
assign_passes by.IsAssign.choice = refl
assign_passes by.IsAssign.interleave = refl

pub assign_behind_name : {s : Symbol} {m : Method} → IsAssign s m → next part.behind_name (Some (symbol s)) ≡ become (part.assign ∷ part.pattern ∷ [])
assign_behind_name by.IsAssign.plain = refl
assign_behind_name by.IsAssign.choice = refl
assign_behind_name by.IsAssign.interleave = refl

pub postfix_passes : {s : Symbol} {repeat : Pattern → Pattern} → IsPostfix s repeat → next part.postfix (Some (symbol s)) ≡ pass (part.follow ∷ [])
postfix_passes by.IsPostfix.optional = refl
postfix_passes by.IsPostfix.zero_or_more = refl
postfix_passes by.IsPostfix.one_or_more = refl

pub connector_passes : {s : Symbol} {join : Patterns → Pattern} → IsConnector s join → next part.more_patterns (Some (symbol s)) ≡ pass (part.members s ∷ [])
connector_passes by.IsConnector.group = refl
connector_passes by.IsConnector.choice = refl
connector_passes by.IsConnector.interleave = refl

pub member_passes : {s : Symbol} {join : Patterns → Pattern} → IsConnector s join → next (part.more_members s) (Some (symbol s)) ≡ pass (part.members s ∷ [])
member_passes by.IsConnector.group = refl
member_passes by.IsConnector.choice = refl
member_passes by.IsConnector.interleave = refl
