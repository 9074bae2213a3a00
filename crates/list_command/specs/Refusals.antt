-- What the reading of a schema answers where it gives none.
use Rattle.std.specs.Prelude.{⊤}
use Rattle.list_command.specs.declared.outcome.SchemaFault.{SchemaFault}
use Rattle.list_command.specs.declared.schema.ReadSchemaFault.{ReadSchemaFault}

-- if it is a refusal, the fault has the property
abbrev pub IfRefused : (SchemaFault → Type 0) → ReadSchemaFault → Type 0
IfRefused P (ReadSchemaFault.Refused fault) = P fault
IfRefused P ReadSchemaFault.OutOfMemory = ⊤
