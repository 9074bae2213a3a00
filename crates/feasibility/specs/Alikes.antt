-- The groups of a new table.
use Rattle.std.specs.Prelude.{ℕ, List}
use Rattle.rng_model.specs.Names.{Name}
use Rattle.rng_model.specs.Texts.{Text}
use Rattle.rng_model.specs.Patterns.{Schema}
use Rattle.rng_model.specs.Atoms.{Literals}
use Rattle.rng_model.specs.Universe.{Lists, AreLiterals, IsElementClass, IsAttributeClass}
use Rattle.rng_model.specs.Alike.{AreAlikeNames, AreAlikeTexts, AreGroups}

-- the groups are those of alike names and texts, as the schema's literals tell them apart
pub record AreAlikeIn (g : Schema) (u : Lists) (of_elements of_attributes of_atoms : List ℕ) : Type 0 where
  pub literals : Literals
  pub are_literals : AreLiterals g literals
  pub elements : AreGroups Name (AreAlikeNames (IsElementClass g)) u.elements of_elements
  pub attributes : AreGroups Name (AreAlikeNames (IsAttributeClass g)) u.attributes of_attributes
  pub atoms : AreGroups Text (AreAlikeTexts literals) u.atoms of_atoms
