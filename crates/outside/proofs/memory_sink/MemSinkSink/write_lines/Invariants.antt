use Rattle.std.proofs.Common.{◌≡◌, Some, length}
use Rattle.outside.specs.Devices.{HasTaken}
use Rattle.outside.proofs.memory_sink.MemSinkSink.write_lines.Given as goal

abbrev pub invariant-loop-rest : goal.invariant-loop-rest
invariant-loop-rest l = record {
  taken : HasTaken (Some l.fn.self.taken) (Some l.self.taken) l.lines l.rest;
  faults : l.self.faults ≡ l.fn.self.faults;
}

abbrev pub decreases-loop-rest : goal.decreases-loop-rest
decreases-loop-rest l = length l.rest
