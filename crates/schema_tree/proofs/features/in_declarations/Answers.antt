use Rattle.std.proofs.Common.{◌∷◌, map}
use Rattle.schema_tree.specs.Trees.{declaration_of}
use Rattle.schema_tree.specs.Features.{InDeclaration, InDeclarations}
use Rattle.schema_tree.specs.Files.{AreWithin}
use Rattle.schema_tree.proofs.Leasts.{Gathered, gather_more}
use Rattle.schema_tree.proofs.features.in_declarations.Goals as goal

pub loop-first-preserved : goal.loop-first-preserved
loop-first-preserved c =
    let before : AreWithin c.args.length (map declaration_of (c.in-Some.first.now ∷ c.in-Some.others.now)) × Gathered c.args.references (InDeclarations c.args.base (map declaration_of c.args.declarations.now)) (InDeclarations c.args.base (map declaration_of (c.in-Some.first.now ∷ c.in-Some.others.now))) c.loop-first.found =
    rw c.in-Some.ensures.cases.0 at c.loop-first.invariant in (
      before.0.1,
      gather_more c.args.references (InDeclarations c.args.base (map declaration_of c.args.declarations.now)) (InDeclaration c.args.base (declaration_of c.in-Some.first.now)) (InDeclarations c.args.base (map declaration_of c.in-Some.others.now))
          c.loop-first.found c.in_declaration.result c.earlier-found.result before.1 c.in_declaration.ensures c.earlier-found.ensures,
    )
