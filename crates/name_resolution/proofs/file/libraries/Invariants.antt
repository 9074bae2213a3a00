use Rattle.std.proofs.Common.{◌≡◌, ℕ, List, ◌∷◌, take}
use Rattle.std.specs.Prelude.{flat_map, codes}
use Rattle.schema_tree.specs.Trees.{declaration_of}
use Rattle.simple_form_laws.specs.Prefixes.{look_up, libraries, xsd_uri}
use Rattle.name_resolution.proofs.file.libraries.Given as goal

abbrev pub invariant-loop-declaration : goal.invariant-loop-declaration
invariant-loop-declaration l = (p : List ℕ) → look_up l.table p ≡ look_up ((codes "xsd", xsd_uri) ∷ flat_map (λ d. libraries (declaration_of d)) (take l.declaration-index l.declarations)) p
