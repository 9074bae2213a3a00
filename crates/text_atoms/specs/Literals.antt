-- How a contract sees the parts of `Literals`.
use Rattle.std.specs.Prelude.{ℕ, Bool, false, List, [], ◌∷◌, map, filter, slice_index_or}
use Rattle.rng_model.specs.Texts.{Text}
use Rattle.rng_model.specs.Kinds.{Kind, Str, Token, Boolean, Integer, NonNegative, Positive, NcName, Nmtoken}
use Rattle.text_atoms.specs.declared.kind.Kind as rust
use Rattle.text_atoms.specs.Kinds.{kind_of}

-- the members, with the kinds of the model
abbrev pub members_of : List (rust.Kind × Text) → List (Kind × Text)
members_of literals = map (λ m. (kind_of m.0, m.1)) literals

-- the kinds in their order
abbrev pub all_kinds : List Kind
all_kinds = Str ∷ Token ∷ Boolean ∷ Integer ∷ NonNegative ∷ Positive ∷ NcName ∷ Nmtoken ∷ []

-- a kind's place in that order, counted from 0
abbrev pub place_of : Kind → ℕ
place_of Str = 0
place_of Token = 1
place_of Boolean = 2
place_of Integer = 3
place_of NonNegative = 4
place_of Positive = 5
place_of NcName = 6
place_of Nmtoken = 7

-- the kinds at whose places the marks are true
unfoldable pub marked_kinds : List Bool → List Kind
marked_kinds marks = filter (λ k. slice_index_or marks (place_of k) false) all_kinds
