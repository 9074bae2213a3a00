use Rattle.pattern_forms.proofs.Leading.{steps_within, node_read}
use Rattle.pattern_forms.proofs.leads.step.Goals as goal

pub returns-clause-within : goal.returns-clause-within
returns-clause-within c =
    let g = c.args.graph.now in
    steps_within g c.requires.closed c.args.contents c.args.node c.index.result.now c.args.k c.step_of.result
    (node_read g c.args.node c.index.result.now c.requires.node c.index.ensures) c.step_of.ensures
