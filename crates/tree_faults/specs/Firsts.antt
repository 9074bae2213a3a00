-- The first of several faults.
use Rattle.std.specs.Prelude.{◌≡◌, ℕ, ◌<◌, Option, Some, None, option_map, if◌then◌else◌}
use Rattle.grammar_laws.specs.Files.{Full}
use Rattle.simple_form_laws.specs.Faults as model
use Rattle.simple_form_laws.specs.Faults.{class_constraints, combine_mixed, defined_twice, has_no_start, parents_outside, prefixes_twice, reserved_prefixes, unbound_prefixes, undefined_names, xmlns_attributes}
use Rattle.name_resolution.specs.Least.{least}
use Rattle.tree_faults.specs.declared.fault.Fault.{Fault}
use Rattle.tree_faults.specs.declared.first.Found.{Found}

abbrev pub fault_of : Fault → model.Fault
fault_of (Fault.UnboundPrefix at) = model.UnboundPrefix at
fault_of (Fault.PrefixTwice at) = model.PrefixTwice at
fault_of (Fault.ReservedPrefix at) = model.ReservedPrefix at
fault_of (Fault.ClassConstraint at) = model.ClassConstraint at
fault_of (Fault.XmlnsAttribute at) = model.XmlnsAttribute at
fault_of Fault.NoStart = model.NoStart
fault_of (Fault.UndefinedName at) = model.UndefinedName at
fault_of (Fault.ParentOutside at) = model.ParentOutside at
fault_of (Fault.CombineMixed at) = model.CombineMixed at
fault_of (Fault.DefinedTwice at) = model.DefinedTwice at

-- the first that there is
abbrev pub first_of : Option Fault → Option Fault → Option Fault
first_of None y = y
first_of (Some x) y = Some x

abbrev pub first_of_names : Found → Option Fault
first_of_names d =
    first_of (option_map (λ at. Fault.UnboundPrefix at) d.names.unbound_prefix)
    (first_of (option_map (λ at. Fault.PrefixTwice at) d.prefix_twice)
    (first_of (option_map (λ at. Fault.ReservedPrefix at) d.reserved_prefix)
    (first_of (option_map (λ at. Fault.ClassConstraint at) d.names.constraint)
    (option_map (λ at. Fault.XmlnsAttribute at) d.names.xmlns_attribute))))

abbrev pub first_of_grammars : Found → Option Fault
first_of_grammars d =
    first_of (if d.grammars.lacks_start then Some Fault.NoStart else None)
    (first_of (option_map (λ at. Fault.UndefinedName at) d.grammars.undefined)
    (first_of (option_map (λ at. Fault.ParentOutside at) d.grammars.outside)
    (first_of (option_map (λ at. Fault.CombineMixed at) d.grammars.mixed)
    (option_map (λ at. Fault.DefinedTwice at) d.grammars.twice))))

abbrev pub first : Found → Option Fault
first d = first_of (first_of_names d) (first_of_grammars d)

-- the faults of a tree, with their least places
pub record IsFound (f : Full) (d : Found) : Type 0 where
  pub unbound : d.names.unbound_prefix ≡ least (unbound_prefixes f)
  pub twice : d.prefix_twice ≡ least (prefixes_twice f)
  pub reserved : d.reserved_prefix ≡ least (reserved_prefixes f)
  pub constraint : d.names.constraint ≡ least (class_constraints f)
  pub xmlns : d.names.xmlns_attribute ≡ least (xmlns_attributes f)
  pub lacks_start : d.grammars.lacks_start ≡ has_no_start f
  pub undefined : d.grammars.undefined ≡ least (undefined_names f)
  pub outside : d.grammars.outside ≡ least (parents_outside f)
  pub mixed : d.grammars.mixed ≡ least (combine_mixed f)
  pub defined : d.grammars.twice ≡ least (defined_twice f)

-- none of the faults that come before a loop
abbrev pub IsClean : Full → Type 0
IsClean f = (y : model.Fault) → model.fault_number y < 41 → model.HasFault f y → ⊥

abbrev pub IsFreeOfLoops : Full → Type 0
IsFreeOfLoops f = (at : ℕ) → model.IsLoop f at → ⊥
