-- The least places of the faults in name classes, types and values.
use Rattle.std.specs.Prelude.{List, [], ◌∷◌, Some, None, flat_map}
use Rattle.rng_model.specs.Texts.{Text}
use Rattle.grammar_laws.specs.Trees.{Class, TypeName, Pattern}
use Rattle.grammar_laws.specs.Trees as full
use Rattle.grammar_laws.specs.Files.{SchemaFile}
use Rattle.simple_form_laws.specs.ClassForms.{Use, OfElement, OfAttribute, class_parts}
use Rattle.simple_form_laws.specs.Parts.{Part}
use Rattle.simple_form_laws.specs.Faults.{bad_value_in, constraint_places, unbound_in_class, unbound_in_type}
use Rattle.name_resolution.specs.ClassPlaces.{xmlns_places}
use Rattle.name_resolution.specs.Least.{least, lesser}
use Rattle.tree_faults.specs.declared.names.NameFaults.{NameFaults}

abbrev pub no_faults : NameFaults
no_faults = record { unbound_prefix = None; constraint = None; xmlns_attribute = None; bad_value = None }

-- of each fault the lesser place
abbrev pub joined : NameFaults → NameFaults → NameFaults
joined a b = record {
  unbound_prefix = lesser a.unbound_prefix b.unbound_prefix;
  constraint = lesser a.constraint b.constraint;
  xmlns_attribute = lesser a.xmlns_attribute b.xmlns_attribute;
  bad_value = lesser a.bad_value b.bad_value;
}

abbrev pub faults_of_class : List SchemaFile → Use → Class → NameFaults
faults_of_class fs use_of c = record {
  unbound_prefix = least (flat_map (unbound_in_class fs) (class_parts c));
  constraint = least (flat_map constraint_places (class_parts c));
  xmlns_attribute = least (xmlns_places fs use_of (class_parts c));
  bad_value = None;
}

abbrev pub faults_of_type : List SchemaFile → TypeName → NameFaults
faults_of_type fs k = record no_faults { unbound_prefix = least (unbound_in_type fs k) }

abbrev pub faults_of_value : List SchemaFile → TypeName → Text → NameFaults
faults_of_value fs k t = record no_faults { unbound_prefix = least (unbound_in_type fs k); bad_value = least (bad_value_in fs (full.value (Some k) t)) }

-- those of the pattern itself, without the patterns in it
abbrev pub own_faults : List SchemaFile → Pattern → NameFaults
own_faults fs (full.element c p at) = faults_of_class fs OfElement c
own_faults fs (full.attribute c p at) = faults_of_class fs OfAttribute c
own_faults fs (full.value (Some k) t) = faults_of_value fs k t
own_faults fs (full.data_type k xs) = faults_of_type fs k
own_faults fs (full.data_except k xs p) = faults_of_type fs k
own_faults fs p = no_faults

-- those of all parts
abbrev pub name_faults : List SchemaFile → List Part → NameFaults
name_faults fs [] = no_faults
name_faults fs (x ∷ xs) = joined (own_faults fs x.pattern) (name_faults fs xs)
