use Rattle.std.proofs.Common.{◌<◌, ◌^◌, ap, sym, subst, arith}
use Rattle.schema_tree.specs.Files.{places_of, AreFilesWithin}
use Rattle.schema_tree.proofs.Places.{based_places, based_within}
use Rattle.schema_tree.proofs.files.FileList.holds.Goals as goal

pub returns-clause-places : goal.returns-clause-places
returns-clause-places c =
    let fit = c.entries-entries.ensures.based in
    let p = based_places _ 0 fit.0 fit.2 in
    let q = ap places_of c.entries-entries.ensures.files in
    omega (arith, p, q, fit.1)

pub returns-clause-within : goal.returns-clause-within
returns-clause-within c =
    let fit = c.entries-entries.ensures.based in
    subst AreFilesWithin c.entries-entries.ensures.files (based_within _ 0 fit.0 fit.2)
