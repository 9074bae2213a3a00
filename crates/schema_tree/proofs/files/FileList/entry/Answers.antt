use Rattle.std.proofs.Common.{◌<◌, length, sym, subst, ap, arith}
use Rattle.schema_tree.specs.Files.{base_of}
use Rattle.schema_tree.proofs.Places.{based_here}
use Rattle.schema_tree.proofs.files.FileList.entry.Goals as goal

pub returns-clause-base : goal.returns-clause-base
returns-clause-base c =
    let here = based_here c.self.inside.entries.items c.index.result.now 0 c.self.inside.places c.args.file c.self.invariant.1
    (subst (λ z. c.args.file < length z) (sym c.self.view_is) c.requires) c.index.ensures in
    let same = ap (λ z. base_of z c.args.file) c.self.view_is in
    omega (arith, here, same)
