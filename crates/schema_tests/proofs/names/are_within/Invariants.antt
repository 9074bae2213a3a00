use Rattle.std.proofs.Common.{◌≤◌, take}
use Rattle.std.specs.Prelude.{All}
use Rattle.schema_tree.specs.Trees.{declaration_of}
use Rattle.simple_form_laws.specs.Faults.{declaration_place}
use Rattle.schema_tests.proofs.names.are_within.Given as goal

abbrev pub invariant-loop-declaration : goal.invariant-loop-declaration
invariant-loop-declaration l = All (λ d. declaration_place (declaration_of d) ≤ l.length) (take l.declaration-index l.declarations)
