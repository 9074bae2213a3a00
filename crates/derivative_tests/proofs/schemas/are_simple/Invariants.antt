-- The patterns before the next may stand in the schema.
use Rattle.std.proofs.Common.{ℕ, ◌<◌}
use Rattle.derivative_tests.proofs.Simple.{IsSimple}
use Rattle.derivative_tests.proofs.schemas.are_simple.Given as goal

abbrev pub invariant-loop-id : goal.invariant-loop-id
invariant-loop-id l = (i : ℕ) → i < l.id → IsSimple l.elements l.pool i
