use Rattle.std.specs.Prelude.{map}
use Rattle.skeleton.specs.Views.{code_of}
use Rattle.event_lines.specs.Coded.{lists_of}
use Rattle.event_lines.specs.Held.{BeginsWith}
use Rattle.event_lines.specs.Spelled.{AreSpellings}
use Rattle.line_tests.proofs.tests.are_taken.Given as goal

abbrev pub invariant-loop-letters : goal.invariant-loop-letters
invariant-loop-letters l = record {
  spelled : AreSpellings (lists_of l.universe l.atoms) l.lines.spellings;
  held : BeginsWith (map code_of l.last.items) l.lines.codes;
}
