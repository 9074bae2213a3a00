use Rattle.seeded_schema.specs.Made.{made}
use Rattle.summary.specs.Summary.{summary}
use Rattle.list_command.specs.Accepting.{Refuses, Accepts}
use Rattle.list_command.proofs.OneOwed.{one_owed}
use Rattle.list_command.proofs.laws.one_is_owed.Goals as goal

pub returns : goal.returns
returns c = λ words files m n o p b d.
    one_owed Refuses Accepts made summary c.lists_are_decided.ensures c.schemas_are_decided.ensures c.one_form.ensures words files m n o p b d
