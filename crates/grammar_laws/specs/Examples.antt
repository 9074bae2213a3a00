-- Token lists of the worked examples.
use Rattle.std.specs.Prelude.{ℕ, zero, suc, List, [], ◌∷◌, ◌++◌, codes}
use Rattle.token_laws.specs.Tokens.{Token, keyword, ident, symbol, Placed, ◌at◌, open_brace, close_brace, open_paren, close_paren, open_bracket, close_bracket, equals, comma, bar, plus}
use Rattle.token_laws.specs.Tokens as word
use Rattle.grammar_laws.specs.Trees.{Class, Pattern, more_patterns, no_pattern, Item, Method, more_items, no_item, Body, File}

-- the token t at n places from a on
abbrev pub repeated : Token → ℕ → ℕ → List Placed
repeated t a zero = []
repeated t a (suc n) = t at a ∷ repeated t (suc a) n

-- 129 times `(`, `empty`, and 129 times `)`
abbrev pub nested : List Placed
nested = repeated (symbol open_paren) 0 129 ++ keyword word.empty at 129 ∷ repeated (symbol close_paren) 134 129

-- a comma and 129 times `(`
abbrev pub comma_nested : List Placed
comma_nested = symbol comma at 0 ∷ repeated (symbol open_paren) 1 129

-- `element a { empty }`
abbrev pub one_element : List Placed
one_element =
    keyword word.element at 0 ∷ ident (codes "a") at 8 ∷ symbol open_brace at 10 ∷ keyword word.empty at 12 ∷ symbol close_brace at 18 ∷ []

abbrev pub element_tree : File
element_tree = record { declarations = []; body = Body.pattern (Pattern.element (Class.plain (codes "a") 8) Pattern.empty 0) }

-- `a, (b | c)+`
abbrev pub chains : List Placed
chains =
    ident (codes "a") at 0 ∷ symbol comma at 1 ∷ symbol open_paren at 3 ∷ ident (codes "b") at 4 ∷ symbol bar at 6 ∷ ident (codes "c") at 8 ∷ symbol close_paren at 9 ∷
    symbol plus at 10 ∷ []

abbrev pub chains_tree : File
chains_tree = record {
  declarations = [];
  body = Body.pattern (Pattern.group (more_patterns (Pattern.ref (codes "a") 0)
      (more_patterns (Pattern.one_or_more (Pattern.choice (more_patterns (Pattern.ref (codes "b") 4) (more_patterns (Pattern.ref (codes "c") 8) no_pattern)))) no_pattern)));
}

-- `x [ ] start = empty`: an annotation and an item
abbrev pub annotated : List Placed
annotated =
    ident (codes "x") at 0 ∷ symbol open_bracket at 2 ∷ symbol close_bracket at 4 ∷ keyword word.start at 6 ∷ symbol equals at 12 ∷ keyword word.empty at 14 ∷ []

abbrev pub annotated_tree : File
annotated_tree = record { declarations = []; body = Body.items (more_items (Item.start Method.Plain Pattern.empty 6) no_item) }

-- `a, b | c`
abbrev pub mixed_chain : List Placed
mixed_chain =
    ident (codes "a") at 0 ∷ symbol comma at 1 ∷ ident (codes "b") at 3 ∷ symbol bar at 5 ∷ ident (codes "c") at 7 ∷ []
