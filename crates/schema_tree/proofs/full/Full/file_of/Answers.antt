use Rattle.std.proofs.Common.{◌<◌, length, sym, subst, ap, ◌∙◌}
use Rattle.schema_tree.specs.Files.{number_at}
use Rattle.schema_tree.proofs.Places.{number_within}
use Rattle.schema_tree.proofs.full.Full.file_of.Goals as goal

pub returns-clause-within : goal.returns-clause-within
returns-clause-within c =
    subst (λ z. z < length c.args.self.now.files) (sym (c.number_at.ensures ∙ ap (λ w. number_at w.files c.args.place) c.self.view_is)) (number_within c.args.self.now.files c.args.place c.requires)
