-- What stands in a part of a class.
use Rattle.std.specs.Prelude.{⊤, IsUtf8, List, [], ◌∷◌}
use Rattle.rng_model.specs.Texts.{Text}
use Rattle.rng_model.specs.Names.{Name, IsName}
use Rattle.name_classes.specs.declared.part.Part.{Part}
use Rattle.name_classes.specs.declared.part.Part.TheVariants.{Any, Namespace, One, Choice}

abbrev pub part_names : Part → List Name
part_names (Any e) = []
part_names (Namespace u e) = []
part_names (One m) = m ∷ []
part_names Choice = []

abbrev pub part_spaces : Part → List Text
part_spaces (Any e) = []
part_spaces (Namespace u e) = u ∷ []
part_spaces (One m) = m.ns ∷ []
part_spaces Choice = []

-- what stands in the part is a name or a text
abbrev pub IsNamedPart : Part → Type 0
IsNamedPart (Any e) = ⊤
IsNamedPart (Namespace u e) = IsUtf8 u
IsNamedPart (One m) = IsName m
IsNamedPart Choice = ⊤
