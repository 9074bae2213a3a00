-- The first of what is found are spread; no number is found twice.
use Rattle.std.proofs.Common.{◌-◌}
use Rattle.pattern_intern.specs.Gathered.{IsGathering}
use Rattle.pattern_intern.specs.Stored.{count}
use Rattle.pattern_intern.proofs.pool.Pool.gather.Given as goal

abbrev pub invariant-loop-next : goal.invariant-loop-next
invariant-loop-next l = IsGathering l.self l.patterns l.next l.found.keys

abbrev pub decreases-loop-next : goal.decreases-loop-next
decreases-loop-next l = count l.self - l.next
