use Rattle.list_command.specs.declared.outcome.SchemaFault.{SchemaFault}
use Rattle.list_command.specs.Accepting.{Refuses}
use Rattle.list_command.proofs.Exits.{unread_memory, unread_fault, unread_refused, too_long, held_bytes}
use Rattle.list_command.proofs.schema_file.read_file.Goals as goal

pub returns-in-Err-OutOfMemory-clause-owed : goal.returns-in-Err-OutOfMemory-clause-owed
returns-in-Err-OutOfMemory-clause-owed g c = λ files told. unread_memory c.args.file.now files _ _

pub returns-in-Err-ReadFault-clause-owed : goal.returns-in-Err-ReadFault-clause-owed
returns-in-Err-ReadFault-clause-owed g c = λ files told. unread_fault c.args.file.now files _ _ _ _ told (c.in-Err-ReadFault.ensures.read_fault (rw c.in-Err-ReadFault.field-0-is))

pub returns-in-Err-TooLong-clause-owed : goal.returns-in-Err-TooLong-clause-owed
returns-in-Err-TooLong-clause-owed g c = λ files told.
    let long = too_long (g.F.Shelf.files c.args.shelf.now) files c.args.file.now told (c.in-Err-TooLong.ensures.too_long (rw c.in-Err-TooLong.field-0-is)) in
    unread_refused c.args.file.now files _ _ SchemaFault.TooLong long.0 c.refused.result long.1 long.2 c.refused.ensures

pub returns-in-Err-OutOfMemory-read_schema-clause-owed : goal.returns-in-Err-OutOfMemory-read_schema-clause-owed
returns-in-Err-OutOfMemory-read_schema-clause-owed g c = λ files told. unread_memory c.args.file.now files _ _

pub returns-clause-owed : goal.returns-clause-owed
returns-clause-owed g c = λ files told.
    let held = held_bytes (g.F.Shelf.files c.args.shelf.now) files c.args.file.now c.in-Ok.bytes.items told c.in-Ok.ensures.bytes in
    let refuses : Refuses c.in-Ok.bytes.items c.in-Err-Refused.fault = rw (c.as_slice.ensures.value, c.in-Err-Refused.field-0-is) at c.in-Err-Refused.ensures.refused in
    unread_refused c.args.file.now files _ _ c.in-Err-Refused.fault c.in-Ok.bytes.items c.refused-in-Err-Refused.result held refuses c.refused-in-Err-Refused.ensures
