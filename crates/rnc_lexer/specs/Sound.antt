-- What holds of the tokens of any text.
use Rattle.std.specs.Prelude.{◌≡◌, ℕ, ◌≤◌, true, List, [], ◌∷◌, Contains, ⊤}
use Rattle.rng_model.specs.Texts.{Text}
use Rattle.rng_model.specs.Names.{is_ncname}
use Rattle.token_laws.specs.Tokens.{Token, Placed, ◌at◌}
use Rattle.token_laws.specs.Names.{names_of}

-- each place is within a text of n bytes
abbrev pub AreWithin : ℕ → List Placed → Type 0
AreWithin n [] = ⊤
AreWithin n (t at a ∷ ts) = (a ≤ n) × AreWithin n ts

-- each name of the token is an NCName
abbrev pub HasNcNames : Token → Type 0
HasNcNames t = (name : Text) → Contains (names_of t) name → is_ncname name ≡ true

-- each place is within a text of n bytes, and each name is an NCName
abbrev pub AreSound : ℕ → List Placed → Type 0
AreSound n [] = ⊤
AreSound n (t at a ∷ ts) = ((a ≤ n) × HasNcNames t) × AreSound n ts
