use Rattle.std.proofs.Common.{length, map}
use Rattle.schema_tree.specs.Features.{InDeclarations}
use Rattle.schema_tree.specs.Files.{AreWithin}
use Rattle.schema_tree.specs.Trees.{declaration_of}
use Rattle.schema_tree.proofs.Leasts.{Gathered}
use Rattle.schema_tree.proofs.features.in_declarations.Given as goal

abbrev pub invariant-loop-first : goal.invariant-loop-first
invariant-loop-first l =
    AreWithin l.fn.length (map declaration_of l.rest) × Gathered l.fn.references (InDeclarations l.fn.base (map declaration_of l.fn.declarations)) (InDeclarations l.fn.base (map declaration_of l.rest)) l.found

abbrev pub decreases-loop-first : goal.decreases-loop-first
decreases-loop-first l = length l.rest
