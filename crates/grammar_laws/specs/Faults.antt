-- Where a token list that is no schema is refused. The end of the text counts as a last token, at the place `end`.
use Rattle.std.specs.Prelude.{◌≡◌, ℕ, List, [], ◌∷◌, ◌++◌}
use Rattle.token_laws.specs.Tokens.{Token, Placed, ◌at◌}
use Rattle.grammar_laws.specs.Trees.{File}
use Rattle.grammar_laws.specs.Grammar.{Derives, Begins}
use Rattle.grammar_laws.specs.Nesting.{TooDeep}

pub data ParseFault : Type 0 where
  syntax_error : ParseFault
  too_deep : ParseFault

-- at place a stands the first token through which the tokens begin no schema
pub record IsStray (ts before : List Placed) (t : Token) (a : ℕ) (after : List Placed) : Type 0 where
  pub spelled : ts ≡ before ++ t at a ∷ after
  pub begins : Begins before
  pub stray : Begins (before ++ t at a ∷ []) → ⊥

-- all tokens begin a schema, and they are none
pub record IsUnfinished (ts : List Placed) : Type 0 where
  pub begins : Begins ts
  pub underived : (f : File) → Derives ts f → ⊥

pub data SyntaxAt (ts : List Placed) (end : ℕ) : ℕ → Type 0 where
  token : {a : ℕ} {t : Token} {before after : List Placed} → IsStray ts before t a after → SyntaxAt ts end a
  unfinished : IsUnfinished ts → SyntaxAt ts end end

-- the tree of a token list within the limit
pub record Parses (ts : List Placed) (f : File) : Type 0 where
  pub derives : Derives ts f
  pub shallow : (a : ℕ) → TooDeep ts a → ⊥

-- the nesting is decided before the grammar
pub data ParseRefusal (ts : List Placed) (end : ℕ) : ParseFault → ℕ → Type 0 where
  deep : {a : ℕ} → TooDeep ts a → ParseRefusal ts end too_deep a
  syntax : {a : ℕ} → ((b : ℕ) → TooDeep ts b → ⊥) → SyntaxAt ts end a → ParseRefusal ts end syntax_error a
