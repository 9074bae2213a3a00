use Rattle.std.proofs.Common.{◌≡◌, ◌≤◌, ◌++◌, flat_map, drop, length, ◌-◌}
use Rattle.rng_model.specs.Lines.{event_line}
use Rattle.line_reader.proofs.events.read_events.Given as goal

abbrev pub invariant-loop-events : goal.invariant-loop-events
invariant-loop-events l = record {
  within : l.done ≤ length l.bytes;
  lines : l.bytes ≡ flat_map event_line l.events ++ drop l.done l.bytes;
}

abbrev pub decreases-loop-events : goal.decreases-loop-events
decreases-loop-events l = length l.bytes - l.done
