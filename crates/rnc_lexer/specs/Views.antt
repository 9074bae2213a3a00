-- What the types of src/ stand for.
use Rattle.std.specs.Prelude.{◌≡◌, ◌≢◌, ℕ, List, Some, slice_get, ⊤}
use Rattle.token_laws.specs.Tokens as model
use Rattle.token_laws.specs.Spellings.{keyword_text}
use Rattle.token_laws.specs.Lexing as by
use Rattle.rnc_lexer.specs.declared.tokens.Keyword.{Keyword}
use Rattle.rnc_lexer.specs.declared.tokens.Symbol.{Symbol}
use Rattle.rnc_lexer.specs.declared.tokens.Token.{Token}
use Rattle.rnc_lexer.specs.declared.tokens.Lexed.{Lexed}
use Rattle.rnc_lexer.specs.declared.words.Word.{Word}
use Rattle.rnc_lexer.specs.declared.literals.Joined.{Joined}
use Rattle.rnc_lexer.specs.declared.faults.LexFault.{LexFault}

abbrev pub keyword_of : Keyword → model.Keyword
keyword_of Keyword.Attribute = model.attribute
keyword_of Keyword.Default = model.default
keyword_of Keyword.Datatypes = model.datatypes
keyword_of Keyword.Div = model.div
keyword_of Keyword.Element = model.element
keyword_of Keyword.Empty = model.empty
keyword_of Keyword.External = model.external
keyword_of Keyword.Grammar = model.grammar
keyword_of Keyword.Include = model.include
keyword_of Keyword.Inherit = model.inherit
keyword_of Keyword.List = model.list
keyword_of Keyword.Mixed = model.mixed
keyword_of Keyword.Namespace = model.namespace
keyword_of Keyword.NotAllowed = model.not_allowed
keyword_of Keyword.Parent = model.parent
keyword_of Keyword.Start = model.start
keyword_of Keyword.String = model.string
keyword_of Keyword.Text = model.text
keyword_of Keyword.Token = model.token

abbrev pub symbol_of : Symbol → model.Symbol
symbol_of Symbol.OpenBrace = model.open_brace
symbol_of Symbol.CloseBrace = model.close_brace
symbol_of Symbol.OpenParen = model.open_paren
symbol_of Symbol.CloseParen = model.close_paren
symbol_of Symbol.OpenBracket = model.open_bracket
symbol_of Symbol.CloseBracket = model.close_bracket
symbol_of Symbol.Equals = model.equals
symbol_of Symbol.BarEquals = model.bar_equals
symbol_of Symbol.AmpersandEquals = model.ampersand_equals
symbol_of Symbol.Comma = model.comma
symbol_of Symbol.Ampersand = model.ampersand
symbol_of Symbol.Bar = model.bar
symbol_of Symbol.Question = model.question
symbol_of Symbol.Star = model.star
symbol_of Symbol.Plus = model.plus
symbol_of Symbol.Minus = model.minus
symbol_of Symbol.Tilde = model.tilde
symbol_of Symbol.Follows = model.follows

abbrev pub token_of : Token → model.Token
token_of (Token.Keyword k) = model.keyword (keyword_of k)
token_of (Token.Ident n) = model.ident n
token_of (Token.CName p n) = model.cname p n
token_of (Token.NsName p) = model.ns_name p
token_of (Token.Segment s) = model.segment s
token_of (Token.Symbol s) = model.symbol (symbol_of s)

abbrev pub placed_of : Lexed → model.Placed
placed_of l = model.◌at◌ (token_of l.token) l.place

abbrev pub word_of : Word → model.Token
word_of (Word.Keyword k) = model.keyword (keyword_of k)
word_of (Word.Ident n) = model.ident n.now
word_of (Word.CName p n) = model.cname p.now n.now
word_of (Word.NsName p) = model.ns_name p.now
word_of (Word.Symbol s) = model.symbol (symbol_of s)

-- the token with the number i
abbrev pub IsTokenAt : List model.Placed → ℕ → model.Token → Type 0
IsTokenAt ts i t = (p : ℕ) × (slice_get ts i ≡ Some (model.◌at◌ t p))

-- the place of the token with the number i
abbrev pub IsPlaceAt : List model.Placed → ℕ → ℕ → Type 0
IsPlaceAt ts i p = (t : model.Token) × (slice_get ts i ≡ Some (model.◌at◌ t p))

-- no keyword is spelled so
abbrev pub IsNoKeyword : List ℕ → Type 0
IsNoKeyword xs = (k : model.Keyword) → xs ≢ keyword_text k

-- the token of a name that stands alone
abbrev pub IsPlain : List ℕ → model.Token → Type 0
IsPlain xs (model.keyword k) = xs ≡ keyword_text k
IsPlain xs (model.ident n) = (n ≡ xs) × IsNoKeyword xs
IsPlain xs _ = ⊥

abbrev pub joined_of : Joined → by.Joined
joined_of Joined.Apart = by.apart
joined_of (Joined.Segment n) = by.after_segment n
joined_of (Joined.Tilde n) = by.after_tilde n

-- the fault and its place have the property; want of memory is no fault of a text
abbrev pub IsFault : (by.Fault → ℕ → Type 0) → LexFault → Type 0
IsFault P (LexFault.BadUtf8 p) = P by.bad_utf8 p
IsFault P (LexFault.BadCharacter p) = P by.bad_character p
IsFault P (LexFault.OpenLiteral p) = P by.open_literal p
IsFault P (LexFault.BadEscape p) = P by.bad_escape p
IsFault P (LexFault.EscapeRefused p) = P by.escape_refused p
IsFault P (LexFault.LiteralTooLong p) = P by.literal_too_long p
IsFault P (LexFault.NameTooLong p) = P by.name_too_long p
IsFault P LexFault.OutOfMemory = ⊤
