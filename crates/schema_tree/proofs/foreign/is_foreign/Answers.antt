use Rattle.std.proofs.Common.{sym, ap, map}
use Rattle.schema_tree.specs.Trees.{declaration_of}
use Rattle.schema_tree.proofs.Walks.{decides_on}
use Rattle.schema_tree.proofs.foreign.is_foreign.Goals as goal

pub loop-first-preserved : goal.loop-first-preserved
loop-first-preserved c =
    decides_on (map declaration_of c.args.declarations.now) (declaration_of c.in-Some.first.now) (map declaration_of c.in-Some.others.now) c.args.prefix.now c.args.local.now c.loop-first.invariant (ap (map declaration_of) c.in-Some.ensures.cases.0) (sym c.if-binds_foreign.ensures)
