use Rattle.std.proofs.Common.{◌∙◌, ap}
use Rattle.restrictions.specs.Flags.{flag_in_start}
use Rattle.restrictions.proofs.Flags.{start_other}
use Rattle.restrictions.proofs.rules.start_breaks.Goals as goal

pub returns-in_default : goal.returns-in_default
returns-in_default c =
    c.flag_of.ensures _ c.description-start.ensures ∙ start_other c.args.rule c.in_default.not-Start _
    ∙ ap (flag_in_start c.args.rule) c.start.ensures.tree
