-- The exit status of an outcome, and the fault line: this project's own.
use Rattle.std.specs.Prelude.{ℕ, List, ◌++◌, Option, Some, None, codes, decimal}
use Rattle.list_command.specs.declared.outcome.Outcome.{Outcome}
use Rattle.list_command.specs.declared.outcome.Outcome.TheVariants.{Done, Words, SchemaRefused, CursorRefused, StateLimit, ReadFault, WriteFault, OutOfMemory, Page}
use Rattle.list_command.specs.declared.outcome.CursorRefusal.{CursorRefusal}
use Rattle.list_command.specs.declared.outcome.CursorRefusal.TheVariants as cursor
use Rattle.list_command.specs.declared.outcome.SchemaFault.{SchemaFault}
use Rattle.list_command.specs.declared.outcome.SchemaFault.TheVariants.{BadUtf8, BadCharacter, OpenLiteral, BadEscape, EscapeRefused, LiteralTooLong, NameTooLong, TooLong, Syntax, TooDeep, Include, External, Inherit, List as ListFault, ForeignType, Parameter, UnboundPrefix, PrefixTwice, ReservedPrefix, ClassConstraint, XmlnsAttribute, NoStart, UndefinedName, ParentOutside, CombineMixed, DefinedTwice, Loop, ExpandedTooDeep, Restriction, BadValue}

abbrev pub status_of : Outcome → ℕ
status_of Done = 0
status_of Words = 2
status_of (SchemaRefused fault name) = 3
status_of (CursorRefused refusal) = 4
status_of (StateLimit size count) = 5
status_of ReadFault = 6
status_of WriteFault = 7
status_of OutOfMemory = 8
status_of Page = 9

-- the number and name of a fault, and its place if it has one
abbrev pub schema_fault_text : SchemaFault → List ℕ
schema_fault_text (BadUtf8 place) = codes "1 BadUtf8 at " ++ decimal place
schema_fault_text (BadCharacter place) = codes "2 BadCharacter at " ++ decimal place
schema_fault_text (OpenLiteral place) = codes "3 OpenLiteral at " ++ decimal place
schema_fault_text (BadEscape place) = codes "4 BadEscape at " ++ decimal place
schema_fault_text (EscapeRefused place) = codes "5 EscapeRefused at " ++ decimal place
schema_fault_text (LiteralTooLong place) = codes "6 LiteralTooLong at " ++ decimal place
schema_fault_text (NameTooLong place) = codes "7 NameTooLong at " ++ decimal place
schema_fault_text TooLong = codes "8 TooLong"
schema_fault_text (Syntax place) = codes "11 Syntax at " ++ decimal place
schema_fault_text (TooDeep place) = codes "12 TooDeep at " ++ decimal place
schema_fault_text (Include place) = codes "21 Include at " ++ decimal place
schema_fault_text (External place) = codes "22 External at " ++ decimal place
schema_fault_text (Inherit place) = codes "23 Inherit at " ++ decimal place
schema_fault_text (ListFault place) = codes "24 List at " ++ decimal place
schema_fault_text (ForeignType place) = codes "25 ForeignType at " ++ decimal place
schema_fault_text (Parameter place) = codes "26 Parameter at " ++ decimal place
schema_fault_text (UnboundPrefix place) = codes "31 UnboundPrefix at " ++ decimal place
schema_fault_text (PrefixTwice place) = codes "32 PrefixTwice at " ++ decimal place
schema_fault_text (ReservedPrefix place) = codes "33 ReservedPrefix at " ++ decimal place
schema_fault_text (ClassConstraint place) = codes "34 ClassConstraint at " ++ decimal place
schema_fault_text (XmlnsAttribute place) = codes "35 XmlnsAttribute at " ++ decimal place
schema_fault_text NoStart = codes "36 NoStart"
schema_fault_text (UndefinedName place) = codes "37 UndefinedName at " ++ decimal place
schema_fault_text (ParentOutside place) = codes "38 ParentOutside at " ++ decimal place
schema_fault_text (CombineMixed place) = codes "39 CombineMixed at " ++ decimal place
schema_fault_text (DefinedTwice place) = codes "40 DefinedTwice at " ++ decimal place
schema_fault_text (Loop place) = codes "41 Loop at " ++ decimal place
schema_fault_text ExpandedTooDeep = codes "42 ExpandedTooDeep"
schema_fault_text (Restriction rule) = codes "43 Restriction rule " ++ decimal rule
schema_fault_text (BadValue place) = codes "44 BadValue at " ++ decimal place

-- the number and name of a cursor's refusal, and its line if it has one
abbrev pub cursor_refusal_text : CursorRefusal → List ℕ
cursor_refusal_text cursor.TooLong = codes "60 TooLong"
cursor_refusal_text (cursor.BadLine line) = codes "61 BadLine line " ++ decimal line
cursor_refusal_text cursor.Unfinished = codes "62 Unfinished"
cursor_refusal_text (cursor.Trailing line) = codes "63 Trailing line " ++ decimal line
cursor_refusal_text (cursor.NotOrdered line) = codes "64 NotOrdered line " ++ decimal line
cursor_refusal_text cursor.CursorTooLarge = codes "71 CursorTooLarge"
cursor_refusal_text (cursor.CursorStray line) = codes "72 CursorStray line " ++ decimal line

-- What goes to `err`, where one schema file was opened: nothing for a run that did its work.
unfoldable pub fault_line : Outcome → Option (List ℕ)
fault_line Done = None
fault_line Words = Some (codes "words\n")
fault_line (SchemaRefused fault name) = Some (codes "schema " ++ schema_fault_text fault ++ codes "\n")
fault_line (CursorRefused refusal) = Some (codes "cursor " ++ cursor_refusal_text refusal ++ codes "\n")
fault_line (StateLimit size count) = Some (codes "states size " ++ decimal size ++ codes " count " ++ decimal count ++ codes "\n")
fault_line ReadFault = Some (codes "read\n")
fault_line WriteFault = Some (codes "write\n")
fault_line OutOfMemory = Some (codes "memory\n")
fault_line Page = None
