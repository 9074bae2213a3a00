-- The names in tokens.
use Rattle.std.specs.Prelude.{List, [], ◌∷◌}
use Rattle.rng_model.specs.Texts.{Text}
use Rattle.token_laws.specs.Tokens.{Token, ident, cname, ns_name}

-- a name, or a prefix and a name, or a prefix
abbrev pub names_of : Token → List Text
names_of (ident n) = n ∷ []
names_of (cname p n) = p ∷ n ∷ []
names_of (ns_name p) = p ∷ []
names_of _ = []
