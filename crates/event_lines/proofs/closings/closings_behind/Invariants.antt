use Rattle.std.proofs.Common.{◌≡◌, ◌-◌, drop, length}
use Rattle.event_lines.specs.Held.{closings}
use Rattle.event_lines.proofs.closings.closings_behind.Given as goal

abbrev pub invariant-loop-count : goal.invariant-loop-count
invariant-loop-count l = drop (length l.codes - l.count) l.codes ≡ closings l.count
