use Rattle.std.proofs.Common.{◌≡◌, take}
use Rattle.event_lines.specs.Held.{HoldsLines}
use Rattle.event_lines.proofs.holding.hold_front.Given as goal

abbrev pub invariant-loop-position : goal.invariant-loop-position
invariant-loop-position l = record { holds : HoldsLines l.spellings l.held; front : l.held.codes ≡ take l.position l.codes }
