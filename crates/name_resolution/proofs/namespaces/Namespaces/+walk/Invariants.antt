use Rattle.std.proofs.Common.{◌≡◌, take, map}
use Rattle.std.specs.Prelude.{flat_map}
use Rattle.grammar_laws.specs.Trees.{classes_of}
use Rattle.schema_tree.specs.Trees.{class_of}
use Rattle.simple_form_laws.specs.ClassForms.{classes_parts}
use Rattle.simple_form_laws.specs.Faults.{unbound_in_class}
use Rattle.name_resolution.specs.ClassPlaces.{refused_places, xmlns_places}
use Rattle.name_resolution.specs.Least.{least, lesser}
use Rattle.name_resolution.specs.Owners.{use_of}
use Rattle.name_resolution.proofs.namespaces.Namespaces.+walk.Given as goal

-- the faults of the members so far
abbrev pub invariant-loop-member : goal.invariant-loop-member
invariant-loop-member l =
    (l.found.unbound_prefix ≡ lesser l.initial.found.unbound_prefix (least (flat_map (unbound_in_class l.self) (classes_parts (classes_of (map class_of (take l.member-index l.member-items)))))))
    × (l.found.constraint ≡ lesser l.initial.found.constraint (least (refused_places l.around (classes_parts (classes_of (map class_of (take l.member-index l.member-items)))))))
    × (l.found.xmlns_attribute ≡ lesser l.initial.found.xmlns_attribute (least (xmlns_places l.self (use_of l.owner) (classes_parts (classes_of (map class_of (take l.member-index l.member-items)))))))
