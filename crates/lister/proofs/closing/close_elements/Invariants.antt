use Rattle.std.proofs.Common.{◌≡◌, ◌++◌, ◌-◌}
use Rattle.lister.specs.OpenElements.{closings}
use Rattle.lister.proofs.closing.close_elements.Given as goal

abbrev pub invariant-loop : goal.invariant-loop
invariant-loop l = record {
  codes : l.path.codes ++ closings (l.fn.depth - l.counter) ≡ l.fn.path.codes ++ closings l.fn.depth;
  states : l.path.states ≡ l.fn.path.states;
  room : l.path.room ≡ l.fn.path.room;
}
