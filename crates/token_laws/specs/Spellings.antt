-- How tokens are spelled.
use Rattle.std.specs.Prelude.{codes}
use Rattle.rng_model.specs.Texts.{Text}
use Rattle.token_laws.specs.Tokens.{Keyword, Symbol}
use Rattle.token_laws.specs.Tokens as word

abbrev pub keyword_text : Keyword → Text
keyword_text word.attribute = codes "attribute"
keyword_text word.default = codes "default"
keyword_text word.datatypes = codes "datatypes"
keyword_text word.div = codes "div"
keyword_text word.element = codes "element"
keyword_text word.empty = codes "empty"
keyword_text word.external = codes "external"
keyword_text word.grammar = codes "grammar"
keyword_text word.include = codes "include"
keyword_text word.inherit = codes "inherit"
keyword_text word.list = codes "list"
keyword_text word.mixed = codes "mixed"
keyword_text word.namespace = codes "namespace"
keyword_text word.not_allowed = codes "notAllowed"
keyword_text word.parent = codes "parent"
keyword_text word.start = codes "start"
keyword_text word.string = codes "string"
keyword_text word.text = codes "text"
keyword_text word.token = codes "token"

abbrev pub symbol_text : Symbol → Text
symbol_text word.open_brace = codes "{"
symbol_text word.close_brace = codes "}"
symbol_text word.open_paren = codes "("
symbol_text word.close_paren = codes ")"
symbol_text word.open_bracket = codes "["
symbol_text word.close_bracket = codes "]"
symbol_text word.equals = codes "="
symbol_text word.bar_equals = codes "|="
symbol_text word.ampersand_equals = codes "&="
symbol_text word.comma = codes ","
symbol_text word.ampersand = codes "&"
symbol_text word.bar = codes "|"
symbol_text word.question = codes "?"
symbol_text word.star = codes "*"
symbol_text word.plus = codes "+"
symbol_text word.minus = codes "-"
symbol_text word.tilde = codes "~"
symbol_text word.follows = codes ">>"
