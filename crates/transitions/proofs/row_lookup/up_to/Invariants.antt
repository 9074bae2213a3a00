use Rattle.std.proofs.Common.{◌-◌}
use Rattle.skeleton.specs.Views.{code_of}
use Rattle.transitions.specs.Searches.{IsBetween}
use Rattle.transitions.proofs.row_lookup.up_to.Given as goal

abbrev pub invariant-halving : goal.invariant-halving
invariant-halving l = IsBetween l.row (code_of l.code) l.low l.high

abbrev pub decreases-halving : goal.decreases-halving
decreases-halving l = l.high - l.low
