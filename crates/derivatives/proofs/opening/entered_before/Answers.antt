use Rattle.std.proofs.Common.{sym, ◌∙◌}
use Rattle.derivatives.proofs.Entering.{entered_nowhere}
use Rattle.derivatives.proofs.opening.entered_before.Goals as goal

pub returns-else-has-clause-made : goal.returns-else-has-clause-made
returns-else-has-clause-made c =
    entered_nowhere c.args.schema.now c.args.name.now c.args.remainder c.args.others c.requires.remainder (c.holds.ensures.ordered _ c.requires.others)
    (sym c.has.ensures ∙ c.if-has.false)
