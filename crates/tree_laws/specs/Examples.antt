-- Bodies that are not whole, each by one of the four facts.
use Rattle.std.specs.Prelude.{codes}
use Rattle.grammar_laws.specs.Trees.{Body, no_pattern, more_patterns}
use Rattle.grammar_laws.specs.Trees as full

-- a reference at place 4
abbrev pub late_reference : Body
late_reference = full.pattern (full.ref (codes "a") 4)

-- an element whose name is a digit
abbrev pub digit_name : Body
digit_name = full.pattern (full.element (full.plain (codes "1") 8) full.empty 0)

-- a group of one pattern
abbrev pub lone_member : Body
lone_member = full.pattern (full.group (more_patterns full.empty no_pattern))

-- two references at one place
abbrev pub shared_place : Body
shared_place = full.pattern (full.group (more_patterns (full.ref (codes "a") 0) (more_patterns (full.parent (codes "b") 0) no_pattern)))
