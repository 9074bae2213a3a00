-- How deep braces and parentheses are nested: this project's own limit. Tokens inside annotation blocks don't count.
use Rattle.std.specs.Prelude.{◌≡◌, ℕ, suc, ◌+◌, Bool, true, false, List, [], ◌∷◌, ◌++◌, ◌==◌, if◌then◌else◌}
use Rattle.token_laws.specs.Tokens.{Token, symbol, Placed, ◌at◌, open_brace, close_brace, open_paren, close_paren, open_bracket, close_bracket}

abbrev pub opens : Token → Bool
opens (symbol open_brace) = true
opens (symbol open_paren) = true
opens _ = false

abbrev pub closes : Token → Bool
closes (symbol close_brace) = true
closes (symbol close_paren) = true
closes _ = false

abbrev pub opens_block : Token → Bool
opens_block (symbol open_bracket) = true
opens_block _ = false

abbrev pub closes_block : Token → Bool
closes_block (symbol close_bracket) = true
closes_block _ = false

-- how many tokens pass p
abbrev pub count : (Token → Bool) → List Placed → ℕ
count p [] = 0
count p (t at a ∷ ts) = if p t then suc (count p ts) else count p ts

-- The tokens of ts that count, after `opened` times `[` and `closed` times `]`: those before which as many `[` as `]` stand.
abbrev pub counting : ℕ → ℕ → List Placed → List Placed
counting opened closed [] = []
counting opened closed (t at a ∷ ts) =
    let rest = counting (if opens_block t then suc opened else opened) (if closes_block t then suc closed else closed) ts in
    if opened == closed then t at a ∷ rest else rest

-- after the tokens `before`, t is a `{` or `(` that counts and has nesting level n
pub record HasLevel (n : ℕ) (before : List Placed) (t : Token) : Type 0 where
  pub opening : opens t ≡ true
  pub counts : count opens_block before ≡ count closes_block before
  pub level : suc (count opens (counting 0 0 before)) ≡ n + count closes (counting 0 0 before)

-- at place a stands the first `{` or `(` of nesting level 129
pub record IsTooDeep (ts : List Placed) (a : ℕ) (before : List Placed) (t : Token) (after : List Placed) : Type 0 where
  pub spelled : ts ≡ before ++ t at a ∷ after
  pub deep : HasLevel 129 before t
  pub first : (xs ys : List Placed) (u : Token) (b : ℕ) → before ≡ xs ++ u at b ∷ ys → HasLevel 129 xs u → ⊥

abbrev pub TooDeep : List Placed → ℕ → Type 0
TooDeep ts a = (before : List Placed) × (t : Token) × (after : List Placed) × IsTooDeep ts a before t after
