-- Families of codes that differ in one position.
use Rattle.std.specs.Prelude.{ℕ, ◌+◌, ◌<◌, ◌^◌, List, ⊤, length}
use Rattle.rng_model.specs.Codes as code
use Rattle.rng_model.specs.Universe.{Lists}
use Rattle.rng_model.specs.Alike.{Groups}
use Rattle.feasibility.specs.declared.family.Family.{Family}
use Rattle.feasibility.specs.declared.family.Family.TheVariants.{Texts, Attribute, Openings}

-- the code of a position
abbrev pub family_code : Family → ℕ → code.Code
family_code Texts p = code.Chars p
family_code (Attribute n) p = code.Attr n p
family_code Openings p = code.Opening p

-- how many positions there are
abbrev pub family_length : Lists → Family → ℕ
family_length u Texts = length u.atoms
family_length u (Attribute n) = length u.atoms
family_length u Openings = length u.elements

-- the groups of the positions
abbrev pub family_groups : Groups → Family → List ℕ
family_groups x Texts = x.atoms
family_groups x (Attribute n) = x.atoms
family_groups x Openings = x.elements

-- an attribute name has a place
abbrev pub HasName : Lists → Family → Type 0
HasName u (Attribute n) = n < length u.attributes
HasName u _ = ⊤

-- the place of a further name is a machine number
abbrev pub IsSmall : Family → Type 0
IsSmall (Attribute n) = n + 1 < 2 ^ 64
IsSmall _ = ⊤
