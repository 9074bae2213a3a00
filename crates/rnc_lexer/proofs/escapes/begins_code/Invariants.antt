use Rattle.std.proofs.Common.{◌≡◌, ◌∷◌, chars, IsUtf8}
use Rattle.token_laws.specs.Lexing.{begins_code}
use Rattle.rnc_lexer.proofs.escapes.begins_code.Given as goal

-- an `x` stands before what is left
abbrev pub invariant-loop-c : goal.invariant-loop-c
invariant-loop-c l = IsUtf8 l.chars.rest.now × (begins_code (chars l.fn.text) ≡ begins_code (120 ∷ chars l.chars.rest.now))
