-- What the literals see of a text.
use Rattle.std.specs.Prelude.{◌≡◌, ℕ, true, slice_get, ◌&&◌, ◌↔◌, List, [], ◌∷◌, Option, Some, None, IsTrue, Contains, is_some, map, if◌then◌else◌}
use Rattle.std.specs.Ordering.{nat_cmp}
use Rattle.std.specs.Cmp.Lexicographic.{slice_cmp}
use Rattle.std.specs.List.{position_or_len}
use Rattle.std.specs.BTreeSet as tree
use Rattle.std.specs.BTreeSet.{BTreeSet}
use Rattle.indexmap.specs.IndexSet.{insert_key}
use Rattle.rng_model.specs.Texts.{Text, is_white}
use Rattle.rng_model.specs.Atoms.{Literals}
use Rattle.text_atoms.specs.declared.kind.Kind.{Kind as RustKind}
use Rattle.text_atoms.specs.declared.kind.Kind.TheVariants as rust
use Rattle.text_atoms.specs.declared.parts.Part.TheVariants.{Values}
use Rattle.text_atoms.specs.declared.signature.KindValues.{KindValues}
use Rattle.text_atoms.specs.declared.signature.Mark.{Mark}
use Rattle.text_atoms.specs.declared.signature.Signature.{Signature}
use Rattle.text_atoms.specs.contracts.signature.SignaturePartialEq.TheImpl as signature_eq
use Rattle.text_atoms.specs.Kinds.{kind_of}
use Rattle.text_atoms.specs.Parts.{parts_of}
use Rattle.text_atoms.specs.Canonical.{canonical}

-- what the literals say of a kind: whether it is marked, and the canonical forms of its values
pub record AreValuesOf (l : Literals) (k : RustKind) (s : KindValues) : Type 0 where
  pub kind : s.kind ≡ k
  pub marked : IsTrue s.is_marked ↔ Contains l.kinds (kind_of k)
  pub values : (x : Text) → Contains s.values.keys x ↔ Contains (parts_of (Values k) l.members) x

-- the kinds, each once
abbrev pub all_variants : List RustKind
all_variants = rust.Str ∷ rust.Token ∷ rust.Boolean ∷ rust.Integer ∷ rust.NonNegative ∷ rust.Positive ∷ rust.NcName ∷ rust.Nmtoken ∷ []

-- what they say of each of the kinds
pub record AreAllValues (l : Literals) (wanted : List RustKind) (all : List KindValues) : Type 0 where
  pub kinds : map (λ s. s.kind) all ≡ wanted
  pub each : (s : KindValues) → Contains all s → AreValuesOf l s.kind s

-- a canonical form, if it is that of a value
abbrev pub value_in : BTreeSet Text → Option Text → Option Text
value_in values None = None
value_in values (Some x) = if tree.contains (slice_cmp nat_cmp) values x then Some x else None

-- what a kind's values and its mark see of a text: whether the kind, if it is marked, allows the text, and which value the text equals
abbrev pub mark_of : KindValues → Text → Mark
mark_of s t = record { is_allowed = s.is_marked && is_some (canonical (kind_of s.kind) t); value = value_in s.values (canonical (kind_of s.kind) t) }

-- what all of them see
pub record IsSignature (all : List KindValues) (t : Text) (s : Signature) : Type 0 where
  pub white : s.is_white ≡ is_white t
  pub marks : s.marks.items ≡ map (λ k. mark_of k t) all

-- the signature of a text is put among those that were seen, and stands at this place
pub record IsPut (all : List KindValues) (t : Text) (seen now : List Signature) (place : ℕ) : Type 0 where
  pub signature : Signature
  pub sees : IsSignature all t signature
  pub inserted : now ≡ insert_key signature_eq.eq-value.it seen signature
  pub index : place ≡ position_or_len (signature_eq.eq-value.it signature) seen
  pub found : (a : Signature) × (slice_get now place ≡ Some a) × (signature_eq.eq-value.it signature a ≡ true)
