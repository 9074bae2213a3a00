use Rattle.std.proofs.Common.{◌≡◌}
use Rattle.transitions.specs.Marked.{end_of}
use Rattle.feasibility.specs.Marking.{IsBlock}
use Rattle.feasibility.proofs.explorer.Explorer.accepting.Given as goal

abbrev pub invariant-loop-id : goal.invariant-loop-id
invariant-loop-id l = IsBlock l.self l.block × (end_of l.block ≡ l.id) × (l.block.rest ≡ 0) × (l.block.start ≡ l.start)
