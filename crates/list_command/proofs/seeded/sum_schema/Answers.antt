use Rattle.command_words.specs.Requests.{request_of}
use Rattle.list_command.proofs.Exits.{ends_unwritten}
use Rattle.list_command.proofs.Within.{none_summed}
use Rattle.list_command.proofs.seeded.sum_schema.Goals as goal

pub returns-in_default-clause-owed : goal.returns-in_default-clause-owed
returns-in_default-clause-owed g c = λ z asks accepts words files form reads. ends_unwritten words files _ _ _ _ (request_of c.args.asked.now) form

pub returns-clause-owed : goal.returns-clause-owed
returns-clause-owed g c = λ z asks. c.sum_table-outcome.ensures.owed c.args.schema.schema z c.in-Ok.ensures.asked asks

pub returns-in_default-clause-within : goal.returns-in_default-clause-within
returns-in_default-clause-within g c = none_summed c.args.schema.schema (request_of c.args.asked.now) c.args.size.nodes _ c.args.steps.now

pub returns-clause-within : goal.returns-clause-within
returns-clause-within g c = c.sum_table-outcome.ensures.within c.args.schema.schema c.in-Ok.ensures.asked c.in-Ok.ensures.empty c.in-Ok.ensures.unspent
