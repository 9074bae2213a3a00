-- What stands for a text among the atoms: this project's own.
use Rattle.std.specs.Prelude.{◌≡◌, ℕ, ◌<◌, List, Some, slice_get}
use Rattle.rng_model.specs.Texts.{Text, normal}
use Rattle.rng_model.specs.Atoms.{Literals, TextStandsFor}
use Rattle.text_atoms.specs.declared.origin.Origin.{Origin}
use Rattle.text_atoms.specs.declared.origin.Origin.TheVariants.{StringLiteral, TokenForm}
use Rattle.text_atoms.specs.Origins.{texts_of}

-- the text at this position of the atoms stands for the text s
pub record StandsAt (l : Literals) (atoms : List (Text × Origin)) (s : Text) (position : ℕ) : Type 0 where
  pub text : Text
  pub at : slice_get (texts_of atoms) position ≡ Some text
  pub stands : TextStandsFor l s text

-- the atom is the string literal s
abbrev pub IsStringAtom : Text × Origin → Text → Type 0
IsStringAtom a s = (a.1 ≡ StringLiteral) × (a.0 ≡ s)

-- the atom is that of the token form that is the normal form of s
abbrev pub IsFormAtom : Text × Origin → Text → Type 0
IsFormAtom a s = (a.1 ≡ TokenForm) × (normal a.0 ≡ normal s)

-- P holds of the atom at the position
abbrev pub SomeAt : List (Text × Origin) → ℕ → (Text × Origin → Type 0) → Type 0
SomeAt atoms i P = (a : Text × Origin) × (slice_get atoms i ≡ Some a) × P a

-- P holds of none of the first n atoms
abbrev pub NoneBefore : List (Text × Origin) → ℕ → (Text × Origin → Type 0) → Type 0
NoneBefore atoms n P = (k : ℕ) (a : Text × Origin) → k < n → slice_get atoms k ≡ Some a → P a → ⊥
