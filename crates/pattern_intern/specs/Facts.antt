-- What is kept beside each node, and the types of src/ as the model's.
use Rattle.std.specs.Prelude.{◌≡◌, option_map}
use Rattle.rng_model.specs.Patterns.{Pattern}
use Rattle.rng_model.specs.Matching.{nullable}
use Rattle.rng_model.specs.Restrictions.{ContentType, empty_type, complex, simple, content_type}
use Rattle.rng_model.specs.Depths.{depth}
use Rattle.pattern_intern.specs.declared.facts.ContentType.{ContentType as RustType}
use Rattle.pattern_intern.specs.declared.facts.ContentType.TheVariants as rust
use Rattle.pattern_intern.specs.declared.facts.Facts.{Facts}

abbrev pub type_of : RustType → ContentType
type_of rust.Empty = empty_type
type_of rust.Complex = complex
type_of rust.Simple = simple

-- the facts of a pattern
pub record IsFacts (p : Pattern) (f : Facts) : Type 0 where
  pub nullable : f.nullable ≡ nullable p
  pub depth : f.depth ≡ depth p
  pub content_type : option_map type_of f.content_type ≡ content_type p
