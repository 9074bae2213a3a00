use Rattle.std.proofs.Common.{◌≡◌, take, map}
use Rattle.schema_tree.specs.Trees.{declaration_of}
use Rattle.name_resolution.specs.Least.{least}
use Rattle.name_resolution.specs.Places.{later_bindings}
use Rattle.name_resolution.proofs.Again.{HasBound}
use Rattle.name_resolution.proofs.declaration_faults.twice_in.Given as goal

-- the faults of the declarations so far, and what they have bound
abbrev pub invariant-loop-declaration : goal.invariant-loop-declaration
invariant-loop-declaration l =
    let before = map declaration_of (take l.declaration-index l.declarations) in
    (l.found ≡ least (later_bindings before)) × HasBound l.inherited before l.bound.namespaces l.bound.libraries l.bound.has_default
