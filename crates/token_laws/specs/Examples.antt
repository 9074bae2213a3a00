-- Texts of the worked examples.
use Rattle.std.specs.Prelude.{ℕ, List, [], ◌∷◌, ◌++◌, codes}
use Rattle.token_laws.specs.Tokens.{Placed, ◌at◌, keyword, ident, symbol, open_brace, close_brace}
use Rattle.token_laws.specs.Tokens as word

-- `element a` and a byte that begins no character
abbrev pub ill_formed : List ℕ
ill_formed = codes "element a" ++ 0xFF ∷ []

-- the tokens of `element a { empty }`
abbrev pub one_element : List Placed
one_element =
    keyword word.element at 0 ∷ ident (codes "a") at 8 ∷ symbol open_brace at 10 ∷ keyword word.empty at 12 ∷ symbol close_brace at 18 ∷ []
