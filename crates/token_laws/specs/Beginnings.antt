-- How a token that is no segment begins, by the first characters of its place.
use Rattle.std.specs.Prelude.{ℕ, Bool, false, ◌&&◌, ◌||◌, ◌==◌, List, [], ◌∷◌}
use Rattle.rng_model.specs.Names.{is_name_start}

-- a name begins
abbrev pub begins_name : List ℕ → Bool
begins_name [] = false
begins_name (c ∷ cs) = is_name_start c

-- `:` and what goes on with a name there
abbrev pub goes_on : List ℕ → Bool
goes_on [] = false
goes_on (c ∷ []) = false
goes_on (c ∷ d ∷ cs) = c == 58 && (is_name_start d || d == 42)

-- a backslash and a name
abbrev pub begins_escaped : List ℕ → Bool
begins_escaped [] = false
begins_escaped (c ∷ []) = false
begins_escaped (c ∷ d ∷ cs) = c == 92 && is_name_start d

-- the two characters of `|=`, `&=` and `>>`
abbrev pub is_pair : ℕ → ℕ → Bool
is_pair c d = (c == 124 && d == 61) || ((c == 38 && d == 61) || (c == 62 && d == 62))

abbrev pub begins_pair : List ℕ → Bool
begins_pair [] = false
begins_pair (c ∷ []) = false
begins_pair (c ∷ d ∷ cs) = is_pair c d

-- a symbol of one character
abbrev pub is_single : ℕ → Bool
is_single c =
    c == 123 || (c == 125 || (c == 40 || (c == 41 || (c == 91 || (c == 93 || (c == 61 || (c == 44 || (c == 38 || (c == 124 || (c == 63 || (c == 42 || (c == 43 || (c == 45 || c == 126)))))))))))))

abbrev pub begins_single : List ℕ → Bool
begins_single [] = false
begins_single (c ∷ cs) = is_single c
