-- Name classes of the simple form: section Simplification (name attribute of element and attribute elements, ns attribute, QNames, number of child elements).
use Rattle.std.specs.Prelude.{ℕ, List, [], ◌∷◌, ◌++◌, Option, Some, None, option_map, fold}
use Rattle.rng_model.specs.Texts.{Text}
use Rattle.rng_model.specs.Names.{Name}
use Rattle.rng_model.specs.Classes as simple
use Rattle.grammar_laws.specs.Trees.{Class, Classes, plain, prefixed, any, any_except, namespace, namespace_except, choice_class, no_classes, more_classes}
use Rattle.grammar_laws.specs.Files.{SchemaFile}
use Rattle.simple_form_laws.specs.Prefixes.{namespace_of, file_at, default_of}

-- whose class it is
pub data Use : Type 0 where
  OfElement : Use
  OfAttribute : Use

-- the namespace of a name without a prefix at a place
abbrev pub unprefixed : List SchemaFile → Use → ℕ → Text
unprefixed fs OfElement at = default_of (file_at fs at)
unprefixed fs OfAttribute at = []

abbrev pub named : Text → Text → Name
named u l = record { ns = u; local = l }

abbrev pub either_of : Option simple.Class → Option simple.Class → Option simple.Class
either_of (Some a) (Some b) = Some (simple.either a b)
either_of _ _ = None

abbrev pub namespace_except_of : Option Text → Option simple.Class → Option simple.Class
namespace_except_of (Some u) (Some c) = Some (simple.namespace_except u c)
namespace_except_of _ _ = None

-- the choice of the members, nested to the left
abbrev pub nested_left : List (Option simple.Class) → Option simple.Class
nested_left [] = None
nested_left (c ∷ cs) = fold either_of c cs

-- the class with its names resolved; none where a prefix isn't bound
abbrev mutual
  pub class_of : List SchemaFile → Use → Class → Option simple.Class
  class_of fs use_of (plain l at) = Some (simple.one (named (unprefixed fs use_of at) l))
  class_of fs use_of (prefixed p l at) = option_map (λ u. simple.one (named u l)) (namespace_of fs p at)
  class_of fs use_of (any at) = Some simple.any
  class_of fs use_of (any_except c at) = option_map simple.any_except (class_of fs use_of c)
  class_of fs use_of (namespace p at) = option_map simple.namespace (namespace_of fs p at)
  class_of fs use_of (namespace_except p c at) = namespace_except_of (namespace_of fs p at) (class_of fs use_of c)
  class_of fs use_of (choice_class cs) = nested_left (classes_of fs use_of cs)

  pub classes_of : List SchemaFile → Use → Classes → List (Option simple.Class)
  classes_of fs use_of no_classes = []
  classes_of fs use_of (more_classes c cs) = class_of fs use_of c ∷ classes_of fs use_of cs

-- the class, and those that stand in it, excepts included
abbrev mutual
  pub class_parts : Class → List Class
  class_parts (plain l at) = plain l at ∷ []
  class_parts (prefixed p l at) = prefixed p l at ∷ []
  class_parts (any at) = any at ∷ []
  class_parts (any_except c at) = any_except c at ∷ class_parts c
  class_parts (namespace p at) = namespace p at ∷ []
  class_parts (namespace_except p c at) = namespace_except p c at ∷ class_parts c
  class_parts (choice_class cs) = classes_parts cs

  pub classes_parts : Classes → List Class
  classes_parts no_classes = []
  classes_parts (more_classes c cs) = class_parts c ++ classes_parts cs
