-- Which rule first gives an atom.
use Rattle.std.specs.Prelude.{◌≡◌, ℕ, ◌<◌, ◌⊎◌, Some, None, Option, List, IsSome, Contains, map, slice_get}
use Rattle.std.specs.Ordering.{nat_cmp}
use Rattle.std.specs.Cmp.Lexicographic.{slice_cmp}
use Rattle.std.specs.List.Sorted.{IsStrictlySortedBy}
use Rattle.std.specs.BTreeMap as tree
use Rattle.std.specs.BTreeMap.{BTreeMap}
use Rattle.rng_model.specs.Texts.{Text}
use Rattle.rng_model.specs.Atoms.{Literals, IsStringLiteral, IsTokenAtom, IsNormalAtom, IsSample, IsFreshText}
use Rattle.text_atoms.specs.declared.origin.Origin.{Origin}
use Rattle.text_atoms.specs.declared.origin.Origin.TheVariants.{StringLiteral, TokenForm, NormalForm, Sample, Fresh, Extra}

-- the rules in their order, the extra texts last
abbrev pub rank_of : Origin → ℕ
rank_of StringLiteral = 0
rank_of TokenForm = 1
rank_of NormalForm = 2
rank_of Sample = 3
rank_of Fresh = 4
rank_of Extra = 5

-- the rule gives the text, or it is an extra text
abbrev pub Gives : Literals → List Text → Origin → Text → Type 0
Gives l extra StringLiteral x = IsStringLiteral l x
Gives l extra TokenForm x = IsTokenAtom l x
Gives l extra NormalForm x = IsNormalAtom l x
Gives l extra Sample x = IsSample l x
Gives l extra Fresh x = IsFreshText l x
Gives l extra Extra x = Contains extra x

-- the first rule that gives the text
pub record IsFirstRule (l : Literals) (extra : List Text) (o : Origin) (x : Text) : Type 0 where
  pub gives : Gives l extra o x
  pub first : (p : Origin) → rank_of p < rank_of o → Gives l extra p x → ⊥

-- the texts of a list of atoms
abbrev pub texts_of : List (Text × Origin) → List Text
texts_of atoms = map (λ a. a.0) atoms

-- what is so of every list of atoms: the texts ascend, each once, and one of them, at this position, is the fresh text
pub record IsAtomList (atoms : List (Text × Origin)) (position : ℕ) : Type 0 where
  pub ascending : IsStrictlySortedBy (slice_cmp nat_cmp) (texts_of atoms)
  pub fresh : (x : Text) × (slice_get atoms position ≡ Some (x, Fresh))

-- each atom stands beside the first rule that gives it
abbrev pub HaveFirstRules : Literals → List Text → List (Text × Origin) → Type 0
HaveFirstRules l extra atoms = (x : Text) (o : Origin) → Contains atoms (x, o) → IsFirstRule l extra o x

-- the origin that a map has for a text
abbrev pub origin_in : BTreeMap Text Origin → Text → Option Origin
origin_in m x = tree.get (slice_cmp nat_cmp) m x

-- the second map has besides what the first has the texts of G that the first lacks, with this origin
pub record Extends (f g : Text → Option Origin) (o : Origin) (G : Text → Type 0) : Type 0 where
  pub kept : (x : Text) (p : Origin) → f x ≡ Some p → g x ≡ Some p
  pub given : (x : Text) → G x → IsSome (g x)
  pub only : (x : Text) (p : Origin) → g x ≡ Some p → (f x ≡ Some p) ⊎ ((f x ≡ None) × (p ≡ o) × G x)

-- the map has what the first rules give, those of a rank below n
pub record HasRules (l : Literals) (extra : List Text) (n : ℕ) (f : Text → Option Origin) : Type 0 where
  pub gives : (x : Text) (o : Origin) → f x ≡ Some o → (rank_of o < n) × IsFirstRule l extra o x
  pub all : (x : Text) (o : Origin) → rank_of o < n → Gives l extra o x → IsSome (f x)

-- what the first rules give, and the fresh text among it
pub record HasFresh (l : Literals) (extra : List Text) (n : ℕ) (f : Text → Option Origin) : Type 0 where
  pub rules : HasRules l extra n f
  pub fresh : (x : Text) × (f x ≡ Some Fresh)
