use Rattle.std.proofs.Common.{◌≡◌, take}
use Rattle.std.specs.Prelude.{flat_map}
use Rattle.schema_tree.specs.Trees.{declaration_of}
use Rattle.name_resolution.specs.Least.{least}
use Rattle.name_resolution.specs.Places.{reserved_place}
use Rattle.name_resolution.proofs.declaration_faults.reserved_in.Given as goal

abbrev pub invariant-loop-declaration : goal.invariant-loop-declaration
invariant-loop-declaration l = l.found ≡ least (flat_map (λ d. reserved_place l.inherited (declaration_of d)) (take l.declaration-index l.declarations))
