use Rattle.std.proofs.Common.{◌≤◌, ◌+◌, option_map}
use Rattle.skeleton.specs.Views.{code_of}
use Rattle.transitions.specs.Searches.{NoneBefore}
use Rattle.transitions.proofs.row_search.next_marked.Given as goal

abbrev pub invariant-loop-place : goal.invariant-loop-place
invariant-loop-place g l =
    NoneBefore l.row l.marks l.left (option_map code_of l.bound) l.place × (l.fn.steps ≤ l.steps) × (l.steps ≤ l.fn.steps + l.place)
