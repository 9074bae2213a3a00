-- Where tokens are refused as a schema.
use Rattle.std.specs.Prelude.{ℕ, List, ⊤}
use Rattle.token_laws.specs.Tokens.{Placed}
use Rattle.grammar_laws.specs.Faults.{ParseRefusal, syntax_error, too_deep}
use Rattle.rnc_parser.specs.declared.parser.ParseFault.{ParseFault}

-- the fault of the tokens with its place; want of memory is no fault of theirs
abbrev pub IsRefusal : List Placed → ℕ → ParseFault → Type 0
IsRefusal ts end (ParseFault.Syntax a) = ParseRefusal ts end syntax_error a
IsRefusal ts end (ParseFault.TooDeep a) = ParseRefusal ts end too_deep a
IsRefusal ts end ParseFault.OutOfMemory = ⊤
