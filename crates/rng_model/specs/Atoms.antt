-- The text atoms of a schema's literals: this project's own.
use Rattle.std.specs.Prelude.{◌≡◌, ◌≢◌, ℕ, zero, suc, ◌<◌, ◌⊎◌, ◌↔◌, Bool, List, [], ◌∷◌, ◌++◌, IsTrue, Contains, codes}
use Rattle.std.specs.Ordering.{nat_cmp}
use Rattle.std.specs.Cmp.Lexicographic.{slice_cmp}
use Rattle.std.specs.List.Sorted.{IsStrictlySortedBy}
use Rattle.rng_model.specs.Texts.{Text, normal}
use Rattle.rng_model.specs.Fresh.{IsFirstFree}
use Rattle.rng_model.specs.Kinds.{Kind, Str, Token, Boolean, Integer, NonNegative, Positive, NcName, Nmtoken}

-- the literals of a simple form, whether an `empty` stands inside an attribute, and the kinds of its values and datatypes
pub record Literals : Type 0 where
  pub members : List (Kind × Text)
  pub has_empty : Bool
  pub kinds : List Kind

-- n, n and one space, n and two spaces, ..
abbrev pub spaced : Text → ℕ → Text
spaced n zero = n
spaced n (suc k) = spaced n k ++ 32 ∷ []

-- First rule: the strings, as written.
abbrev pub IsStringLiteral : Literals → Text → Type 0
IsStringLiteral l x = Contains l.members (Str, x)

-- Second rule: the normal form of a token, or the empty text for an `empty` inside an attribute, with the fewest spaces behind it that make no string.
abbrev pub IsTokenForm : Literals → Text → Type 0
IsTokenForm l n = ((t : Text) × Contains l.members (Token, t) × (n ≡ normal t)) ⊎ (IsTrue l.has_empty × (n ≡ []))

pub record IsSpacedForm (l : Literals) (n x : Text) : Type 0 where
  pub spaces : ℕ
  pub is : x ≡ spaced n spaces
  pub free : IsStringLiteral l x → ⊥
  pub first : (k : ℕ) → k < spaces → IsStringLiteral l (spaced n k)

abbrev pub IsTokenAtom : Literals → Text → Type 0
IsTokenAtom l x = (n : Text) × IsTokenForm l n × IsSpacedForm l n x

-- Third rule: the normal forms of the literals of the other kinds.
abbrev pub IsNormalAtom : Literals → Text → Type 0
IsNormalAtom l x = (k : Kind) × (t : Text) × Contains l.members (k, t) × (k ≢ Str) × (k ≢ Token) × (x ≡ normal t)

-- Fourth rule: the samples of each kind that stands in the simple form.
abbrev pub samples : Kind → List Text
samples Str = []
samples Token = []
samples Boolean = codes "false" ∷ codes "true" ∷ []
samples Integer = codes "-1" ∷ codes "0" ∷ codes "1" ∷ []
samples NonNegative = codes "0" ∷ codes "1" ∷ []
samples Positive = codes "1" ∷ []
samples NcName = codes "n" ∷ []
samples Nmtoken = codes "-n" ∷ []

abbrev pub IsSample : Literals → Text → Type 0
IsSample l x = (k : Kind) × Contains l.kinds k × Contains (samples k) x

-- Fifth rule: the first of `t`, `t1`, `t2`, .. that is neither the text nor the normal form of a literal.
abbrev pub IsTaken : Literals → Text → Type 0
IsTaken l x = (k : Kind) × (t : Text) × Contains l.members (k, t) × ((x ≡ t) ⊎ (x ≡ normal t))

abbrev pub IsFreshText : Literals → Text → Type 0
IsFreshText l x = IsFirstFree (IsTaken l) (codes "t") x

abbrev pub IsAtom : Literals → Text → Type 0
IsAtom l x = IsStringLiteral l x ⊎ IsTokenAtom l x ⊎ IsNormalAtom l x ⊎ IsSample l x ⊎ IsFreshText l x

-- The atoms and the extra texts, each once, ascending by their bytes.
pub record AreAtoms (l : Literals) (extra atoms : List Text) : Type 0 where
  pub ascending : IsStrictlySortedBy (slice_cmp nat_cmp) atoms
  pub each : (x : Text) → Contains atoms x ↔ (IsAtom l x ⊎ Contains extra x)

-- The text s stands for t. A string literal stands for itself, another text whose normal form is that of a token literal,
-- or is empty where an `empty` stands in an attribute, for the atom of that form, and every other text for the fresh text.
abbrev pub TextStandsFor : Literals → Text → Text → Type 0
TextStandsFor l s t =
    (IsStringLiteral l s × (t ≡ s))
    ⊎ ((IsStringLiteral l s → ⊥) × IsTokenForm l (normal s) × IsSpacedForm l (normal s) t)
    ⊎ ((IsStringLiteral l s → ⊥) × (IsTokenForm l (normal s) → ⊥) × IsFreshText l t)
