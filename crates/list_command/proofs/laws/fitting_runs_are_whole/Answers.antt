use Rattle.list_command.proofs.Whole.{ends_whole}
use Rattle.list_command.proofs.laws.fitting_runs_are_whole.Goals as goal

pub returns : goal.returns
returns c = ends_whole c.counts_of_states.ensures.grows c.lists_are_decided.ensures c.schemas_are_decided.ensures c.one_form.ensures
