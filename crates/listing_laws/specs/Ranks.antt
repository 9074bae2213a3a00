-- How many lists of codes there may be above one: this project's own.
use Rattle.std.specs.Prelude.{ℕ, zero, suc, ◌+◌, ◌*◌, List, [], ◌∷◌, length}
use Rattle.rng_model.specs.Universe.{Lists}
use Rattle.rng_model.specs.Codes.{Code, Opening, Attr, Body, Chars, Closing}

-- the place of a code among all that are in range, counted from 1
abbrev pub code_place : Lists → Code → ℕ
code_place u Body = 1
code_place u Closing = 2
code_place u (Chars s) = 3 + s
code_place u (Attr j s) = 3 + length u.atoms + length u.atoms * j + s
code_place u (Opening i) = 3 + length u.atoms + length u.atoms * length u.attributes + i

-- more than the place of any code that is in range
abbrev pub place_total : Lists → ℕ
place_total u = 3 + length u.atoms + length u.atoms * length u.attributes + length u.elements

-- more than the rank of any list of at most k codes
abbrev pub rank_total : Lists → ℕ → ℕ
rank_total u zero = 1
rank_total u (suc k) = rank_total u k * place_total u

-- the rank of a list of at most k codes: greater lists have a greater one
abbrev pub rank : Lists → ℕ → List Code → ℕ
rank u zero cs = 0
rank u (suc k) [] = 0
rank u (suc k) (c ∷ cs) = rank_total u k * code_place u c + rank u k cs
