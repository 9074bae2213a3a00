use Rattle.std.proofs.Common.{◌≡◌, ◌≤◌, ◌++◌, flat_map, drop, length, ◌-◌}
use Rattle.line_reader.specs.Spellings.{spelling}
use Rattle.line_reader.proofs.texts.read_front.Given as goal

abbrev pub invariant-loop-byte : goal.invariant-loop-byte
invariant-loop-byte l = record {
  within : l.done ≤ length l.bytes;
  front : l.bytes ≡ flat_map (spelling l.escapes) l.spelled.items ++ drop l.done l.bytes;
}

abbrev pub decreases-loop-byte : goal.decreases-loop-byte
decreases-loop-byte l = length l.bytes - l.done
