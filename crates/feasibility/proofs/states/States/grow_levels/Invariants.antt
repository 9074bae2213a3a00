use Rattle.std.proofs.Common.{◌+◌, ◌-◌, ◌≤◌}
use Rattle.feasibility.specs.Growing.{AreGrown, GoesOn, cost_of, parts_of}
use Rattle.feasibility.proofs.states.States.grow_levels.Given as goal

abbrev pub invariant-loop-self : goal.invariant-loop-self
invariant-loop-self g l = record {
  grown : AreGrown l.self;
  small : l.self.explorer.level ≤ l.size;
  on : GoesOn (parts_of l.fn.self) (parts_of l.self);
  ticks : l.steps + cost_of (parts_of l.fn.self) (parts_of l.fn.self) ≤ l.fn.steps + cost_of (parts_of l.fn.self) (parts_of l.self);
}

abbrev pub decreases-loop-self : goal.decreases-loop-self
decreases-loop-self g l = l.size - l.self.explorer.level
