use Rattle.list_command.proofs.Refusing.{refuses_broken}
use Rattle.list_command.proofs.schema.unbroken.Goals as goal

pub returns-in-Ok-Some-clause-refused : goal.returns-in-Ok-Some-clause-refused
returns-in-Ok-Some-clause-refused c = λ bytes full taken simple.
    rw c.restriction.ensures (refuses_broken bytes full c.args.schema.schema c.in-Ok-Some.rule taken simple (rw c.in-Ok-Some.field-0-is at c.in-Ok-Some.ensures))
