use Rattle.std.proofs.Common.{◌<◌, length, inr, subst}
use Rattle.command_words.specs.Requests.{request_of}
use Rattle.seeded_schema.specs.Made.{made}
use Rattle.list_command.specs.Accepting.{Refuses, Accepts}
use Rattle.list_command.specs.declared.outcome.SchemaFault.{SchemaFault}
use Rattle.list_command.proofs.Exits.{ends_unwritten}
use Rattle.list_command.proofs.Commands.{made_refused, not_short}
use Rattle.list_command.specs.Ticks.{SumsWithin}
use Rattle.list_command.proofs.Within.{none_summed}
use Rattle.list_command.proofs.seeded.sum_seeded.Goals as goal

pub returns-in_default-clause-owed : goal.returns-in_default-clause-owed
returns-in_default-clause-owed g c = λ asks words files form reads. ends_unwritten words files _ _ _ _ (request_of c.args.asked.now) form

pub returns-then-not-is_short-clause-owed : goal.returns-then-not-is_short-clause-owed
returns-then-not-is_short-clause-owed g c = λ asks words files form reads.
    let long : 1048576 < length c.as_slice-bytes.result.now = not_short _ c.is_short.result c.is_short.ensures.1 c.if-not-is_short.true in
    let refuses : Refuses (made c.args.number) SchemaFault.TooLong = rw (c.as_slice-bytes.ensures.value, c.in-Ok.ensures.made) at (Refuses.too_long long) in
    made_refused words files (request_of c.args.asked.now) _ _ _ reads _ SchemaFault.TooLong c.refused.result form asks refuses c.refused.ensures

pub returns-in-Ok-read_schema-clause-owed : goal.returns-in-Ok-read_schema-clause-owed
returns-in-Ok-read_schema-clause-owed g c = λ asks.
    let accepts : Accepts (made c.args.number) c.in-Ok-read_schema.schema.schema = rw (c.as_slice-bytes.ensures.value, c.in-Ok.ensures.made) at c.in-Ok-read_schema.ensures.accepted in
    c.sum_schema.ensures.owed c.args.number asks accepts

pub returns-in-Err-OutOfMemory-clause-owed : goal.returns-in-Err-OutOfMemory-clause-owed
returns-in-Err-OutOfMemory-clause-owed g c = λ asks words files form reads. ends_unwritten words files _ _ _ _ (request_of c.args.asked.now) form

pub returns-clause-owed : goal.returns-clause-owed
returns-clause-owed g c = λ asks words files form reads.
    let refuses : Refuses (made c.args.number) c.in-Err-Refused.fault =
    rw (c.as_slice-bytes.ensures.value, c.in-Err-Refused.field-0-is, c.in-Ok.ensures.made) at c.in-Err-Refused.ensures.refused in
    made_refused words files (request_of c.args.asked.now) _ _ _ reads _ c.in-Err-Refused.fault c.refused-in-Err-Refused.result form asks refuses
    (rw c.in-Err-Refused.fault-is at c.refused-in-Err-Refused.ensures)

pub returns-in_default-clause-within : goal.returns-in_default-clause-within
returns-in_default-clause-within g c = λ h accepts. none_summed h (request_of c.args.asked.now) c.args.size.nodes _ c.args.steps.now

pub returns-then-not-is_short-clause-within : goal.returns-then-not-is_short-clause-within
returns-then-not-is_short-clause-within g c = λ h accepts. none_summed h (request_of c.args.asked.now) c.args.size.nodes _ c.args.steps.now

pub returns-in-Ok-read_schema-clause-within : goal.returns-in-Ok-read_schema-clause-within
returns-in-Ok-read_schema-clause-within g c = λ h accepts.
    let mine : Accepts (made c.args.number) c.in-Ok-read_schema.schema.schema = rw (c.as_slice-bytes.ensures.value, c.in-Ok.ensures.made) at c.in-Ok-read_schema.ensures.accepted in
    subst (λ k. SumsWithin c.args.steps.now c.sum_schema.new.steps k (request_of c.args.asked.now) c.args.size.nodes c.sum_schema.result) (c.schemas_are_decided.ensures.one_schema mine accepts)
    c.sum_schema.ensures.within

pub returns-in-Ok-read_schema-clause-accepted : goal.returns-in-Ok-read_schema-clause-accepted
returns-in-Ok-read_schema-clause-accepted g c =
    let mine : Accepts (made c.args.number) c.in-Ok-read_schema.schema.schema = rw (c.as_slice-bytes.ensures.value, c.in-Ok.ensures.made) at c.in-Ok-read_schema.ensures.accepted in
    inr (c.in-Ok-read_schema.schema.schema, mine)

pub returns-in-Err-OutOfMemory-clause-within : goal.returns-in-Err-OutOfMemory-clause-within
returns-in-Err-OutOfMemory-clause-within g c = λ h accepts. none_summed h (request_of c.args.asked.now) c.args.size.nodes _ c.args.steps.now

pub returns-clause-within : goal.returns-clause-within
returns-clause-within g c = λ h accepts. none_summed h (request_of c.args.asked.now) c.args.size.nodes _ c.args.steps.now
