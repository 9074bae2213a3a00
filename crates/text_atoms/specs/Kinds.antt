-- How a contract sees a Rust `Kind` as a kind of the model.
use Rattle.std.specs.Prelude.{Bool}
use Rattle.std.specs.Str.{bytes_eq}
use Rattle.text_atoms.specs.declared.kind.Kind.{Kind as RustKind}
use Rattle.text_atoms.specs.declared.kind.Kind.TheVariants as rust
use Rattle.rng_model.specs.Texts.{Text}
use Rattle.rng_model.specs.Kinds.{Kind, Str, Token, Boolean, Integer, NonNegative, Positive, NcName, Nmtoken, same_boolean, same_integer}

abbrev pub kind_of : RustKind → Kind
kind_of rust.Str = Str
kind_of rust.Token = Token
kind_of rust.Boolean = Boolean
kind_of rust.Integer = Integer
kind_of rust.NonNegative = NonNegative
kind_of rust.Positive = Positive
kind_of rust.NcName = NcName
kind_of rust.Nmtoken = Nmtoken

-- whether two allowed texts of these normal forms are one value, where the kind compares normal forms
abbrev pub same_normal : Kind → Text → Text → Bool
same_normal Boolean m n = same_boolean m n
same_normal Integer m n = same_integer m n
same_normal NonNegative m n = same_integer m n
same_normal Positive m n = same_integer m n
same_normal _ m n = bytes_eq m n
