-- The texts that literals give to the rules for atoms.
use Rattle.std.specs.Prelude.{◌≡◌, ℕ, ◌<◌, Some, None, Option, List, Contains, nat_eq, if◌then◌else◌}
use Rattle.std.specs.List.{filter_map}
use denote.Ref.{Bor}
use Rattle.rng_model.specs.Texts.{Text, normal}
use Rattle.rng_model.specs.Kinds.{Kind, Str, Token}
use Rattle.rng_model.specs.Atoms.{spaced}
use Rattle.text_atoms.specs.Kinds.{kind_of}
use Rattle.text_atoms.specs.Literals.{place_of}
use Rattle.text_atoms.specs.Canonical.{canonical}
use Rattle.text_atoms.specs.declared.kind.Kind as rust
use Rattle.text_atoms.specs.declared.parts.Part.{Part}
use Rattle.text_atoms.specs.declared.parts.Part.TheVariants.{Strings, TokenForms, OtherForms, Texts, Forms, Values}

-- what a part takes of a literal: its text, its normal form or its canonical form, or nothing
abbrev pub part_of : Part → Kind × Text → Option Text
part_of Strings (Str, t) = Some t
part_of Strings m = None
part_of TokenForms (Token, t) = Some (normal t)
part_of TokenForms m = None
part_of OtherForms (Str, t) = None
part_of OtherForms (Token, t) = None
part_of OtherForms (k, t) = Some (normal t)
part_of Texts (k, t) = Some t
part_of Forms (k, t) = Some (normal t)
part_of (Values wanted) (k, t) = if nat_eq (place_of k) (place_of (kind_of wanted)) then canonical k t else None

-- the part of all literals
abbrev pub parts_of : Part → List (Kind × Text) → List Text
parts_of part members = filter_map (part_of part) members

-- n with the fewest spaces behind it that make none of the texts that are taken
pub record IsLeastSpaced (taken : Text → Type 0) (n x : Text) : Type 0 where
  pub spaces : ℕ
  pub is : x ≡ spaced n spaces
  pub free : taken x → ⊥
  pub first : (k : ℕ) → k < spaces → taken (spaced n k)

-- a text of the table whose kind is marked
pub record IsOfMarkedKinds (kinds : List Kind) (table : List (rust.Kind × Bor Text)) (x : Text) : Type 0 where
  pub entry : rust.Kind × Bor Text
  pub member : Contains table entry
  pub kind : Contains kinds (kind_of entry.0)
  pub text : entry.1.now ≡ x
