use Rattle.std.proofs.Common.{◌∷◌}
use Rattle.schema_tree.proofs.Walks.{FilesAt, files_fit, files_on}
use Rattle.schema_tree.proofs.features.in_files.Goals as goal

pub in_declarations-here-requires-clause-fits : goal.in_declarations-here-requires-clause-fits
in_declarations-here-requires-clause-fits c = files_fit c.args.files.now c.in-Some.first.now c.loop-first.invariant c.in-Some.ensures.cases.0

pub loop-first-preserved : goal.loop-first-preserved
loop-first-preserved c =
    let before : FilesAt c.args.references c.args.files.now (c.in-Some.first.now ∷ c.in-Some.others.now) c.loop-first.found = rw c.in-Some.ensures.cases.0 at c.loop-first.invariant in
    files_on c.args.references c.args.files.now c.in-Some.first.now c.in-Some.others.now c.loop-first.found c.in_declarations-here.result c.earlier-found.result before (rw c.as_slice.ensures at c.in_declarations-here.ensures) c.earlier-found.ensures
