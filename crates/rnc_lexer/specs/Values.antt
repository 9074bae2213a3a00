-- What contracts see of a list of tokens.
use Rattle.std.specs.Prelude.{ℕ, List}
use Rattle.token_laws.specs.Tokens.{Placed}

-- the tokens with the places of their first bytes, and the length of their text
pub record TokensValue : Type 0 where
  pub tokens : List Placed
  pub end : ℕ
