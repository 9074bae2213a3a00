use Rattle.std.proofs.Common.{◌∙◌, ap}
use Rattle.restrictions.specs.Flags.{flag_in_content}
use Rattle.restrictions.proofs.Flags.{content_other}
use Rattle.restrictions.proofs.rules.content_breaks.Goals as goal

pub returns-in_default : goal.returns-in_default
returns-in_default c =
    c.flag_of.ensures _ c.description.ensures ∙ content_other c.args.rule c.in_default.not-StringSequence _
    ∙ ap (flag_in_content c.args.rule) c.element_content-content.ensures.tree
