use Rattle.std.proofs.Common.{subst}
use Rattle.schema_tree.specs.Files.{full_of, last_place}
use Rattle.schema_tree.specs.Sound.{IsSoundBody}
use Rattle.schema_tree.specs.Trees.{body_of}
use Rattle.simplify.proofs.Simplifiable.{simplifiable}
use Rattle.simplify.proofs.is_simplifiable.Goals as goal

pub returns : goal.returns
returns c = simplifiable (full_of c.args.full.now) (last_place c.args.full.now.files) c.requires
    (subst (λ b. IsSoundBody (last_place c.args.full.now.files) (body_of b)) c.body-body.ensures.body c.body-body.ensures.sound)
