-- The places of the faults in a name class.
use Rattle.std.specs.Prelude.{ℕ, Bool, true, false, List, [], ◌++◌, flat_map}
use Rattle.grammar_laws.specs.Trees.{Class}
use Rattle.grammar_laws.specs.Files.{SchemaFile}
use Rattle.simple_form_laws.specs.ClassForms.{Use, OfElement, OfAttribute}
use Rattle.simple_form_laws.specs.Faults.{any_place, constraint_places, wild_place, xmlns_in_class}
use Rattle.name_resolution.specs.declared.class_faults.Around.{Around}
use Rattle.name_resolution.specs.declared.class_faults.Around.TheVariants.{Nothing, Any, Namespace}

-- the places, where the class is an attribute's
abbrev pub of_attribute : Use → List ℕ → List ℕ
of_attribute OfElement xs = []
of_attribute OfAttribute xs = xs

-- the namespace of `xmlns` in an attribute's class
abbrev pub xmlns_places : List SchemaFile → Use → List Class → List ℕ
xmlns_places fs use_of cs = of_attribute use_of (flat_map (xmlns_in_class fs) cs)

-- the place of a class that mustn't stand in the excepts around it
abbrev pub refused_place : Around → Class → List ℕ
refused_place Nothing c = []
refused_place Any c = any_place c
refused_place Namespace c = wild_place c

-- what mustn't stand in the excepts around the class, and what mustn't stand in its own
abbrev pub refused_places : Around → List Class → List ℕ
refused_places around cs = flat_map (refused_place around) cs ++ flat_map constraint_places cs

-- inside an except of `*`
abbrev pub within_any : Around → Around
within_any Nothing = Any
within_any Any = Any
within_any Namespace = Namespace

-- whether `*` is refused
abbrev pub refuses_any : Around → Bool
refuses_any Nothing = false
refuses_any Any = true
refuses_any Namespace = true

-- whether all names of a namespace are refused
abbrev pub refuses_namespace : Around → Bool
refuses_namespace Nothing = false
refuses_namespace Any = false
refuses_namespace Namespace = true
