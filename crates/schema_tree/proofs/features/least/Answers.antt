use Rattle.std.proofs.Common.{map, ◌∙◌, ◌⊎◌, subst}
use Rattle.schema_tree.specs.Features.{InFiles, InBody}
use Rattle.schema_tree.specs.Files.{file_of}
use Rattle.schema_tree.specs.Least.{IsLeast}
use Rattle.schema_tree.specs.Trees.{body_of}
use Rattle.schema_tree.proofs.Leasts.{least_two}
use Rattle.schema_tree.proofs.features.least.Goals as goal

pub returns : goal.returns
returns c =
    let fs = map file_of c.entries-files.result.now in
    let body = subst (λ b. IsLeast c.args.references (InBody fs (body_of b)) c.in_body.result) c.body.ensures.body c.in_body.ensures in
    subst (λ xs. IsLeast c.args.references (λ f a. InFiles 0 xs f a ⊎ InBody xs (body_of c.args.full.now.body) f a) c.earlier.result) (c.entries-files.ensures.files ∙ c.files.ensures)
    (least_two c.args.references (InFiles 0 fs) (InBody fs (body_of c.args.full.now.body)) c.in_files-declared.result c.in_body.result c.earlier.result c.in_files-declared.ensures body c.earlier.ensures)
