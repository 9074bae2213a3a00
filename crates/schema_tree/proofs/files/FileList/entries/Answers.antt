use Rattle.std.proofs.Common.{sym, subst}
use Rattle.schema_tree.specs.Files.{AreBased}
use Rattle.schema_tree.proofs.files.FileList.entries.Goals as goal

pub returns-clause-based : goal.returns-clause-based
returns-clause-based c = (c.self.inside.places, c.self.invariant.0, subst (λ es. AreBased 0 c.self.inside.places es) (sym c.as_slice.ensures.value) c.self.invariant.1)
